-- Laws of bytes written, copied and moved, and of a part that is lent.
use Prim.Native.Nat.{ℕ, zero, suc, ◌+◌, ◌-◌, ◌≤◌, ◌<◌}
use native.Mathlib.Omega.{arith}
use native.Mathlib.Nat.{zero-add, suc-add, not-suc-le-zero, le_of_suc-le-suc}
use native.Mathlib.Numerals.{add-one}
use mathlib.Core.Path.{◌≡◌, refl, sym, ap, ◌∙◌}
use mathlib.Core.List.{List, [], ◌∷◌, ◌++◌, append_assoc}
use lib.ListN.{length, take, drop, get_or, set, length-drop}
use lib.Seq.{take-add, drop-drop, length-take-le, get_or-append-add, get_or-drop}
use Rattle.record.specs.Part.{part, with_part}
use Rattle.record.proofs.Parts.{length_part, with_take, with_drop}

-- one byte more of a list copied over the front of another
copy_suc : (i : ℕ) (s d : List ℕ) → i < length s → length s ≤ length d → set (take i s ++ drop i d) i (get_or s i 0) ≡ take (suc i) s ++ drop (suc i) d
copy_suc i [] d h k = absurd (not-suc-le-zero h)
copy_suc i (x ∷ s) [] h k = absurd (not-suc-le-zero k)
copy_suc zero (x ∷ s) (y ∷ d) h k = refl
copy_suc (suc i) (x ∷ s) (y ∷ d) h k = ap (λ (l : List ℕ). x ∷ l) (copy_suc i s d (le_of_suc-le-suc h) (le_of_suc-le-suc k))

copy_more : (i : ℕ) (s d : List ℕ) → i < length s → length s ≤ length d → set (take i s ++ drop i d) i (get_or s i 0) ≡ take (i + 1) s ++ drop (i + 1) d
copy_more i s d h k = copy_suc i s d h k ∙ ap (λ (n : ℕ). take n s ++ drop n d) (sym (add-one i))

-- `slide`: the first i bytes are moved
pub set_append_add : (xs ys : List ℕ) (n a : ℕ) → set (xs ++ ys) (length xs + n) a ≡ xs ++ set ys n a
set_append_add [] ys n a = ap (λ (k : ℕ). set ys k a) (zero-add n)
set_append_add (x ∷ xs) ys n a = ap (λ (k : ℕ). set (x ∷ (xs ++ ys)) k a) (suc-add (length xs) n) ∙ ap (λ (l : List ℕ). x ∷ l) (set_append_add xs ys n a)

-- a byte past the part
get_d_past : (a k n : ℕ) (l ys : List ℕ) → a ≤ length l → length ys ≡ k → get_or (with_part a k l ys) (a + (k + n)) 0 ≡ get_or l (a + (k + n)) 0
get_d_past a k n l ys h e =
    ap (λ (x : ℕ). get_or (with_part a k l ys) (x + (k + n)) 0) (sym (length-take-le a l h))
    ∙ get_or-append-add (take a l) (ys ++ drop k (drop a l)) (k + n) 0
    ∙ ap (λ (x : ℕ). get_or (ys ++ drop k (drop a l)) (x + n) 0) (sym e)
    ∙ get_or-append-add ys (drop k (drop a l)) n 0
    ∙ get_or-drop k (drop a l) n 0
    ∙ get_or-drop a l (k + n) 0

slide_more : (l : List ℕ) (from to i n : ℕ) → to ≤ from → from + n ≤ length l → i < n
    → set (with_part to i l (part from i l)) (to + i) (get_or l (from + i) 0) ≡ with_part to (i + 1) l (part from (i + 1) l)
slide_more l from to i n p q h =
    let ht : to ≤ length l = omega arith in
    let h₁ : i < length (drop from l) = rw (length-drop from l) (omega arith) in
    let h₂ : length (drop from l) ≤ length (drop to l) = rw (length-drop from l, length-drop to l) (omega arith) in
    ap (λ (x : ℕ). set (with_part to i l (part from i l)) (x + i) (get_or l (from + i) 0)) (sym (length-take-le to l ht))
    ∙ set_append_add (take to l) (take i (drop from l) ++ drop i (drop to l)) i (get_or l (from + i) 0)
    ∙ ap (λ (x : ℕ). take to l ++ set (take i (drop from l) ++ drop i (drop to l)) i x) (sym (get_or-drop from l i 0))
    ∙ ap (λ (x : List ℕ). take to l ++ x) (copy_more i (drop from l) (drop to l) h₁ h₂)

slide_reads : (l : List ℕ) (from to i n : ℕ) → to ≤ from → from + n ≤ length l → i < n → get_or (with_part to i l (part from i l)) (from + i) 0 ≡ get_or l (from + i) 0
slide_reads l from to i n p q h =
    let ht : to ≤ length l = omega arith in
    let hi : i ≤ length (drop from l) = rw (length-drop from l) (omega arith) in
    let e : to + (i + (from - to)) ≡ from + i = omega arith in
    rw e at (get_d_past to i (from - to) l (part from i l) ht (length-take-le i (drop from l) hi))

pub slide_turn : (l s : List ℕ) (from to i n : ℕ) → to ≤ from → from + n ≤ length l → i < n → s ≡ with_part to i l (part from i l)
    → set s (to + i) (get_or s (from + i) 0) ≡ with_part to (i + 1) l (part from (i + 1) l)
slide_turn l s from to i n p q h e =
    ap (λ (x : List ℕ). set x (to + i) (get_or x (from + i) 0)) e
    ∙ ap (λ (x : ℕ). set (with_part to i l (part from i l)) (to + i) x) (slide_reads l from to i n p q h)
    ∙ slide_more l from to i n p q h

-- a lent part that comes back
pub lent_back : (a e k : ℕ) (l ys zs : List ℕ) → e ≡ a + k → ys ≡ zs → with_part a (e - a) l ys ≡ with_part a k l zs
lent_back a e k l ys zs h q =
    let d : e - a ≡ k = omega arith in
    ap (λ (n : ℕ). with_part a n l ys) d ∙ ap (λ (x : List ℕ). with_part a k l x) q

pub lent_length : (a k : ℕ) (l : List ℕ) → a + k ≤ length l → length (take (a + k - a) (drop a l)) ≡ k
lent_length a k l h =
    let d : a + k - a ≡ k = omega arith in
    let g : k ≤ length (drop a l) = rw (length-drop a l) (omega arith) in
    ap (λ (n : ℕ). length (take n (drop a l))) d ∙ length-take-le k (drop a l) g

-- `slide`: bytes moved after the first i, which are moved already
pub slide_join : (l s t : List ℕ) (from to i k : ℕ) → to ≤ from → from + (i + k) ≤ length l → s ≡ with_part to i l (part from i l)
    → t ≡ with_part (to + i) k s (part (from + i) k s) → t ≡ with_part to (i + k) l (part from (i + k) l)
slide_join l s t from to i k p h e f =
    let m : length (part from i l) ≡ i = length_part from i l (omega arith) in
    let front : take (to + i) s ≡ take to l ++ part from i l = with_take to i (to + i) l s (part from i l) (omega arith) m refl e in
    let back : drop (to + i) s ≡ drop (to + i) l = with_drop to i (to + i) l s (part from i l) (omega arith) m refl e in
    let n : to + i + (from - to) ≡ from + i = omega arith in
    let read : drop (from + i) s ≡ drop (from + i) l =
    ap (λ (x : ℕ). drop x s) (sym n) ∙ sym (drop-drop (from - to) (to + i) s) ∙ ap (λ (x : List ℕ). drop (from - to) x) back
    ∙ drop-drop (from - to) (to + i) l ∙ ap (λ (x : ℕ). drop x l) n
    in
    let both : part from (i + k) l ≡ part from i l ++ part (from + i) k l =
    take-add i k (drop from l) ∙ ap (λ (x : List ℕ). part from i l ++ take k x) (drop-drop i from l)
    in
    let rest : drop k (drop (to + i) l) ≡ drop (i + k) (drop to l) = ap (λ (x : List ℕ). drop k x) (sym (drop-drop i to l)) ∙ drop-drop k i (drop to l) in
    f ∙ rw (front, back, read, rest, both) (append_assoc (take to l) (part from i l) (part (from + i) k l ++ drop (i + k) (drop to l)) ∙ ap (λ (x : List ℕ). take to l ++ x) (sym (append_assoc (part from i l) (part (from + i) k l) (drop (i + k) (drop to l)))))

pub slide_most : (l s t : List ℕ) (from to i n : ℕ) → to ≤ from → from + n ≤ length l → i ≤ n → s ≡ with_part to i l (part from i l)
    → t ≡ with_part (to + i) (n - i) s (part (from + i) (n - i) s) → t ≡ with_part to n l (part from n l)
slide_most l s t from to i n p h q e f =
    let m : i + (n - i) ≡ n = omega arith in
    rw m at (slide_join l s t from to i (n - i) p (omega arith) e f)
