-- Laws of bytes written one behind the other: the header's fields, its zeros, a record.
use Prim.Native.Nat.{ℕ, ◌+◌, ◌-◌, ◌≤◌}
use native.Mathlib.Omega.{arith}
use mathlib.Core.Path.{◌≡◌, refl, sym, ap, ◌∙◌}
use mathlib.Core.List.{List, ◌++◌, append_assoc}
use lib.ListN.{length, take, drop, replicate, length-append, length-drop}
use lib.Seq.{take_at, drop_at, drop-drop, length-take-le}
use Rattle.record.specs.Part.{with_part}
use Rattle.record.proofs.Parts.{with_take, with_drop}
use Rattle.word.specs.Word.{bytes_of}
use Rattle.word.proofs.Bigs.{length_bytes, stored_part, grow}
use Rattle.journal.specs.Layout.{first_bytes, header_bytes, record_bytes, checksum}

-- the bytes ys behind x, which is all that was written so far
pub behind : (x t t₁ t₂ ys : List ℕ) (a k : ℕ) → length x ≡ a → t₁ ≡ x ++ drop a t → t₂ ≡ with_part a k t₁ ys → t₂ ≡ (x ++ ys) ++ drop (a + k) t
behind x t t₁ t₂ ys a k h e f =
    f ∙ rw (e, take_at x (drop a t) a h, drop_at x (drop a t) a h, drop-drop k a t) (sym (append_assoc x ys (drop (a + k) t)))

-- `put_first`: the first bytes over eight others
pub firsts_fit : (s t : List ℕ) → 8 ≤ length t → s ≡ first_bytes → length (take 8 t) ≡ length s
unfolding first_bytes
firsts_fit s t h e =
    let n : length s ≡ 8 = ap length e in
    let m : length (take 8 t) ≡ 8 = length-take-le 8 t h in
    m ∙ sym n

pub firsts : (s t ys : List ℕ) → s ≡ first_bytes → ys ≡ s → ys ++ drop 8 t ≡ first_bytes ++ drop 8 t
firsts s t ys e q = ap (λ (x : List ℕ). x ++ drop 8 t) (q ∙ e)

-- `put_fields`: five numbers behind the first bytes
pub fields : (count nonce pages sector size : ℕ) (t t₁ t₂ t₃ t₄ t₅ t₆ : List ℕ) → t₁ ≡ first_bytes ++ drop 8 t
    → t₂ ≡ take 8 t₁ ++ (bytes_of count ++ drop 12 t₁) → t₃ ≡ take 12 t₂ ++ (bytes_of nonce ++ drop 16 t₂) → t₄ ≡ take 16 t₃ ++ (bytes_of pages ++ drop 20 t₃)
    → t₅ ≡ take 20 t₄ ++ (bytes_of sector ++ drop 24 t₄) → t₆ ≡ take 24 t₅ ++ (bytes_of size ++ drop 28 t₅)
    → t₆ ≡ (first_bytes ++ (bytes_of count ++ (bytes_of nonce ++ (bytes_of pages ++ (bytes_of sector ++ bytes_of size))))) ++ drop 28 t
unfolding first_bytes bytes_of
fields count nonce pages sector size t t₁ t₂ t₃ t₄ t₅ t₆ e₁ e₂ e₃ e₄ e₅ e₆ =
    let x₂ : List ℕ = first_bytes ++ bytes_of count in
    let x₃ : List ℕ = x₂ ++ bytes_of nonce in
    let x₄ : List ℕ = x₃ ++ bytes_of pages in
    let x₅ : List ℕ = x₄ ++ bytes_of sector in
    grow 24 4 t t₅ t₆ x₅ (bytes_of size) refl
    (grow 20 4 t t₄ t₅ x₄ (bytes_of sector) refl
    (grow 16 4 t t₃ t₄ x₃ (bytes_of pages) refl
    (grow 12 4 t t₂ t₃ x₂ (bytes_of nonce) refl
    (grow 8 4 t t₁ t₂ first_bytes (bytes_of count) refl e₁ e₂)
    e₃)
    e₄)
    e₅)
    e₆

-- `put_header`: zeros behind the fields
pub padded : (count nonce pages sector size : ℕ) (t t₁ ys : List ℕ) → 28 ≤ sector → sector ≤ length t
    → t₁ ≡ (first_bytes ++ (bytes_of count ++ (bytes_of nonce ++ (bytes_of pages ++ (bytes_of sector ++ bytes_of size))))) ++ drop 28 t
    → ys ≡ replicate (length (take (sector - 28) (drop 28 t₁))) 0 → with_part 28 (sector - 28) t₁ ys ≡ header_bytes count nonce pages sector size ++ drop sector t
unfolding first_bytes bytes_of header_bytes
padded count nonce pages sector size t t₁ ys h k e q =
    let x : List ℕ = first_bytes ++ (bytes_of count ++ (bytes_of nonce ++ (bytes_of pages ++ (bytes_of sector ++ bytes_of size)))) in
    let d : drop 28 t₁ ≡ drop 28 t = ap (λ (l : List ℕ). drop 28 l) e ∙ drop_at x (drop 28 t) 28 refl in
    let n : length (drop 28 t) ≡ length t - 28 = length-drop 28 t in
    let m : length (take (sector - 28) (drop 28 t₁)) ≡ sector - 28 = rw d (length-take-le (sector - 28) (drop 28 t) (omega arith)) in
    let z : ys ≡ replicate (sector - 28) 0 = q ∙ ap (λ (i : ℕ). replicate i 0) m in
    let s : 28 + (sector - 28) ≡ sector = omega arith in
    behind x t t₁ (with_part 28 (sector - 28) t₁ ys) ys 28 (sector - 28) refl e refl ∙ rw (s, z) refl

-- `put_record`: one part behind another
pub join : (l x y ys zs : List ℕ) (a k m : ℕ) → a + k ≤ length l → length ys ≡ k → x ≡ with_part a k l ys → y ≡ with_part (a + k) m x zs → y ≡ with_part a (k + m) l (ys ++ zs)
join l x y ys zs a k m h q e f =
    let front : take (a + k) x ≡ take a l ++ ys = with_take a k (a + k) l x ys h q refl e in
    let back : drop (a + k) x ≡ drop (a + k) l = with_drop a k (a + k) l x ys h q refl e in
    let rest : drop m (drop (a + k) l) ≡ drop (k + m) (drop a l) = ap (λ (z : List ℕ). drop m z) (sym (drop-drop k a l)) ∙ drop-drop m k (drop a l) in
    f ∙ rw (front, back, rest) (append_assoc (take a l) ys (zs ++ drop (k + m) (drop a l)) ∙ ap (λ (z : List ℕ). take a l ++ z) (sym (append_assoc ys zs (drop (k + m) (drop a l)))))

pub record_put : (at number nonce sum : ℕ) (page t t₁ ys t₂ t₃ : List ℕ) → at + (length page + 8) ≤ length t
    → t₁ ≡ take at t ++ (bytes_of number ++ drop (at + 4) t)
    → ys ≡ page
    → t₂ ≡ with_part (at + 4) (at + 4 + length page - (at + 4)) t₁ ys
    → sum ≡ checksum nonce (length page) page → t₃ ≡ take (at + 4 + length page) t₂ ++ (bytes_of sum ++ drop (at + 4 + length page + 4) t₂)
    → t₃ ≡ with_part at (length page + 8) t (record_bytes nonce (length page) (record { number = number; image = page }))
unfolding record_bytes
record_put at number nonce sum page t t₁ ys t₂ t₃ h e₁ q e₂ es e₃ =
    let n : ℕ = length page in
    let d : at + 4 + n - (at + 4) ≡ n = omega arith in
    let f₂ : t₂ ≡ with_part (at + 4) n t₁ page = e₂ ∙ rw (d, q) refl in
    let two : t₂ ≡ with_part at (4 + n) t (bytes_of number ++ page) = join t t₁ t₂ (bytes_of number) page at 4 n (omega arith) (length_bytes number) (stored_part t t₁ at number e₁) f₂ in
    let w : length (bytes_of number ++ page) ≡ 4 + n = length-append (bytes_of number) page ∙ ap (λ (i : ℕ). i + n) (length_bytes number) in
    let p : at + 4 + n ≡ at + (4 + n) = omega arith in
    let f₃ : t₃ ≡ with_part (at + (4 + n)) 4 t₂ (bytes_of sum) = stored_part t₂ t₃ (at + 4 + n) sum e₃ ∙ ap (λ (i : ℕ). with_part i 4 t₂ (bytes_of sum)) p in
    let r : 4 + n + 4 ≡ n + 8 = omega arith in
    join t t₂ t₃ (bytes_of number ++ page) (bytes_of sum) at (4 + n) 4 (omega arith) w two f₃
    ∙ ap (λ (i : ℕ). with_part at i t (bytes_of number ++ page ++ bytes_of sum)) r
    ∙ ap (λ (x : List ℕ). with_part at (n + 8) t x) (append_assoc (bytes_of number) page (bytes_of sum) ∙ ap (λ (i : ℕ). bytes_of number ++ (page ++ bytes_of i)) es)
