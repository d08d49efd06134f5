-- Laws of a list with another part: its length, what is before the part, the part itself, what is behind it. And of a part of a part.
use Prim.Native.Nat.{ℕ, zero, suc, ◌+◌, ◌*◌, ◌-◌, ◌≤◌, ◌<◌}
use native.Mathlib.Omega.{arith}
use native.Mathlib.Nat.{add-mul, one-mul, mul_comm, mul-le-mul}
use mathlib.Core.Path.{◌≡◌, refl, sym, ap, ◌∙◌}
use mathlib.Core.List.{List, [], ◌∷◌, ◌++◌, append_assoc}
use lib.ListN.{length, get_or, take, drop, set, length-append, length-drop, get_or-append}
use lib.Seq.{get_or-take, drop-set-add, take-set-lt, take_at, drop_at, drop-drop, length-take-le, take-take}
use Rattle.record.specs.Part.{part, with_part}

-- a list with another part from a to b: up to b, from b on, in all
module _ (a k b : ℕ) (l x ys : List ℕ) (h : a + k ≤ length l) (q : length ys ≡ k) (n : b ≡ a + k) (e : x ≡ with_part a k l ys) where
  front_length : length (take a l ++ ys) ≡ b
  front_length =
      let ha : a ≤ length l = omega arith in
      length-append (take a l) ys ∙ ap (λ (m : ℕ). m + length ys) (length-take-le a l ha) ∙ ap (λ (m : ℕ). a + m) q ∙ sym n

  apart : x ≡ take a l ++ ys ++ drop k (drop a l)
  apart = e ∙ sym (append_assoc (take a l) ys (drop k (drop a l)))

  pub with_take : take b x ≡ take a l ++ ys
  with_take = ap (λ (z : List ℕ). take b z) apart ∙ take_at (take a l ++ ys) (drop k (drop a l)) b front_length

  pub with_drop : drop b x ≡ drop b l
  with_drop =
      ap (λ (z : List ℕ). drop b z) apart ∙ drop_at (take a l ++ ys) (drop k (drop a l)) b front_length
      ∙ drop-drop k a l ∙ ap (λ (m : ℕ). drop m l) (sym n)

  pub with_length : length x ≡ length l
  with_length =
      let d : length (drop k (drop a l)) ≡ length l - a - k = length-drop k (drop a l) ∙ ap (λ (m : ℕ). m - k) (length-drop a l) in
      let f : length (take a l ++ ys) ≡ b = front_length in
      let g : length x ≡ length (take a l ++ ys) + length (drop k (drop a l)) = ap (λ (z : List ℕ). length z) apart ∙ length-append (take a l ++ ys) (drop k (drop a l)) in
      omega arith

-- a list with another part: its length, a byte before the part, what is behind it, the part itself
pub length_part : (a k : ℕ) (l : List ℕ) → a + k ≤ length l → length (part a k l) ≡ k
length_part a k l h = let g : k ≤ length (drop a l) = rw (length-drop a l) (omega arith) in length-take-le k (drop a l) g

-- a page or a frame of a row of them
pub one_fits : (p pages size n : ℕ) → p < pages → n ≡ size * pages → p * size + size ≤ n
one_fits p pages size n h e =
    let k : (p + 1) * size ≤ pages * size = mul-le-mul {n₁ = p + 1} {m₁ = size} {n₂ = pages} {m₂ = size} (omega arith) (omega arith) in
    let f : (p + 1) * size ≡ p * size + size = add-mul p 1 size ∙ ap (λ (x : ℕ). p * size + x) (one-mul size) in
    let g : size * pages ≡ pages * size = mul_comm size pages in
    omega arith

pub length_with : (a k : ℕ) (l ys : List ℕ) → a + k ≤ length l → length ys ≡ k → length (with_part a k l ys) ≡ length l
length_with a k l ys h q = with_length a k (a + k) l (with_part a k l ys) ys h q refl refl

pub get_d_with_below : (a k : ℕ) (l ys : List ℕ) (i : ℕ) → a ≤ length l → i < a → get_or (with_part a k l ys) i 0 ≡ get_or l i 0
get_d_with_below a k l ys i h g =
    let e : length (take a l) ≡ a = length-take-le a l h in
    let g' : i < length (take a l) = omega arith in
    get_or-append (take a l) (ys ++ drop k (drop a l)) 0 i g' ∙ get_or-take a l i 0 g

pub drop_with : (a k : ℕ) (l ys : List ℕ) → a + k ≤ length l → length ys ≡ k → drop (a + k) (with_part a k l ys) ≡ drop (a + k) l
drop_with a k l ys h q = with_drop a k (a + k) l (with_part a k l ys) ys h q refl refl

pub part_with : (a k : ℕ) (l ys : List ℕ) → a ≤ length l → length ys ≡ k → part a k (with_part a k l ys) ≡ ys
part_with a k l ys h q =
    ap (λ (x : List ℕ). take k x) (drop_at (take a l) (ys ++ drop k (drop a l)) a (length-take-le a l h)) ∙ take_at ys (drop k (drop a l)) k q

-- an element that is set within a part
pub part_set : (a k : ℕ) (l : List ℕ) (i v : ℕ) → i < k → part a k (set l (a + i) v) ≡ set (part a k l) i v
part_set a k l i v h = ap (λ (x : List ℕ). take k x) (drop-set-add a l i v) ∙ take-set-lt k (drop a l) i v h

-- a part of the first bytes, and a part of a part
pub part_front : (a b n : ℕ) (l : List ℕ) → b + n ≤ a → part b n (take a l) ≡ part b n l
part_front a zero n l h = take-take n a l (omega arith)
part_front zero (suc b) n l h = absurd (omega arith)
part_front (suc a) (suc b) n [] h = refl
part_front (suc a) (suc b) n (x ∷ l) h = part_front a b n l (omega arith)

pub part_inner : (a k b n : ℕ) (l : List ℕ) → b + n ≤ k → part b n (part a k l) ≡ part (a + b) n l
part_inner a k b n l h = part_front k b n (drop a l) h ∙ ap (λ (x : List ℕ). take n x) (drop-drop b a l)
