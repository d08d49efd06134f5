-- Laws of numbers highest byte first, and of bytes written one number behind the other.
use Rattle.std.proofs.Common.{◌≡◌, ℕ, suc, ◌+◌, ◌*◌, ◌/◌, ◌%◌, ◌<◌, ◌≤◌, List, ◌++◌, length, get_or, take, drop, set, sym, refl, ap, ◌∙◌, append_assoc, arith, get_or-drop, drop-drop, take_at, drop_at}
use native.Mathlib.Nat.{div-div-eq-div-mul}
use lib.Seq.{sets-eq}
use Rattle.word.specs.Word.{big, bytes_of}

-- `store`: four bytes in a row
pub stored : (l b : List ℕ) (at v : ℕ) → at + 4 ≤ length l → b ≡ bytes_of v
    → set (set (set (set l at (get_or b 0 0)) (at + 1) (get_or b 1 0)) (at + 2) (get_or b 2 0)) (at + 3) (get_or b 3 0) ≡ take at l ++ (bytes_of v ++ drop (at + 4) l)
unfolding bytes_of
stored l b at v h e =
    let e₁ : at + 1 ≡ suc at = omega arith in
    let e₂ : at + 2 ≡ suc (suc at) = omega arith in
    let e₃ : at + 3 ≡ suc (suc (suc at)) = omega arith in
    rw (e, e₁, e₂, e₃) (sets-eq (bytes_of v) l at h ∙ append_assoc (take at l) (bytes_of v) (drop (at + 4) l))

-- what is behind them, as it is behind the place
pub stored_part : (l t : List ℕ) (at v : ℕ) → t ≡ take at l ++ (bytes_of v ++ drop (at + 4) l) → t ≡ take at l ++ (bytes_of v ++ drop 4 (drop at l))
stored_part l t at v e = e ∙ ap (λ (x : List ℕ). take at l ++ (bytes_of v ++ x)) (sym (drop-drop 4 at l))

pub length_bytes : (v : ℕ) → length (bytes_of v) ≡ 4
unfolding bytes_of
length_bytes v = refl

-- what `big` reads of a number's bytes: its digits by 256
digits : (v q r s a b c d : ℕ) → v ≡ q * 256 + d → q ≡ r * 256 + c → r ≡ s * 256 + b → s ≡ a → a * 16777216 + b * 65536 + c * 256 + d ≡ v
digits v q r s a b c d e f g h = omega arith

pub big_front : (v : ℕ) (l : List ℕ) → v < 4294967296 → big (bytes_of v ++ l) 0 ≡ v
unfolding big bytes_of
big_front v l h =
    let e₁ : v / 65536 ≡ v / 256 / 256 = sym (div-div-eq-div-mul v 256 256) in
    let e₂ : v / 16777216 ≡ v / 256 / 256 / 256 = sym (div-div-eq-div-mul v 256 65536) ∙ sym (div-div-eq-div-mul (v / 256) 256 256) in
    let low : (n : ℕ) → n ≡ n / 256 * 256 + n % 256 = λ n. omega arith in
    let top : v / 256 / 256 / 256 ≡ v / 256 / 256 / 256 % 256 = omega arith in
    rw (e₁, e₂) (digits v (v / 256) (v / 256 / 256) (v / 256 / 256 / 256) _ _ _ _ (low v) (low (v / 256)) (low (v / 256 / 256)) top)

-- a number behind the first bytes
pub big_drop : (at k : ℕ) (l : List ℕ) → big (drop at l) k ≡ big l (at + k)
unfolding big
big_drop at k l =
    let e₁ : at + (k + 1) ≡ at + k + 1 = omega arith in
    let e₂ : at + (k + 2) ≡ at + k + 2 = omega arith in
    let e₃ : at + (k + 3) ≡ at + k + 3 = omega arith in
    rw (get_or-drop at l k 0, get_or-drop at l (k + 1) 0, get_or-drop at l (k + 2) 0, get_or-drop at l (k + 3) 0, e₁, e₂, e₃)

pub big_at : (at : ℕ) (l : List ℕ) → big (drop at l) 0 ≡ big l at
big_at at l = let e : at + 0 ≡ at = omega arith in big_drop at 0 l ∙ ap (λ (x : ℕ). big l x) e

-- k bytes more behind the first n
pub grow : (n k : ℕ) (l t t' p q : List ℕ) → length p ≡ n → t ≡ p ++ drop n l → t' ≡ take n t ++ (q ++ drop (n + k) t) → t' ≡ (p ++ q) ++ drop (n + k) l
grow n k l t t' p q e et et' =
    let a : take n t ≡ p = ap (take n) et ∙ take_at p (drop n l) n e in
    let b : drop n t ≡ drop n l = ap (drop n) et ∙ drop_at p (drop n l) n e in
    let d : drop (n + k) t ≡ drop (n + k) l = sym (drop-drop k n t) ∙ ap (drop k) b ∙ drop-drop k n l in
    et' ∙ (λ i. a i ++ (q ++ d i)) ∙ sym (append_assoc p q (drop (n + k) l))
