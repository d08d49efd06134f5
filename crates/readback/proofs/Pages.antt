-- What is read of stored pages, or of frames, once one of them was written: it is the page written, and the others stay.
use Prim.Native.Nat.{ℕ, ◌+◌, ◌*◌, ◌-◌, ◌≤◌, ◌<◌}
use native.Mathlib.Omega.{arith}
use native.Mathlib.Nat.{mul_comm}
use mathlib.Core.Path.{◌≡◌, refl, sym, ap, ◌∙◌}
use mathlib.Core.Bool.{Bool, true, false}
use mathlib.Core.List.{List, ◌++◌}
use lib.ListN.{length, take, drop, length-drop, take-append-drop}
use lib.Seq.{length-take-le, take-append-le, drop-append-le, drop-drop}
use lib.Dec.{ltb}
use borrow.Author.Tests.{ltb-true, ltb-false}
use Rattle.record.specs.Part.{part, with_part}
use Rattle.record.proofs.Parts.{length_part, length_with, drop_with, part_with, one_fits}
use Rattle.rules.specs.Lent.{page_in, with_page}

-- a part of the front
part_front : (b j : ℕ) (xs ys : List ℕ) → b + j ≤ length xs → part b j (xs ++ ys) ≡ part b j xs
part_front b j xs ys h =
    let h₁ : b ≤ length xs = omega arith in
    let h₂ : j ≤ length (drop b xs) = rw (length-drop b xs) (omega arith) in
    ap (λ (x : List ℕ). take j x) (drop-append-le b xs ys h₁) ∙ take-append-le j (drop b xs) ys h₂

-- a part before one that is written, and one behind it
pub part_with_below : (b j a k : ℕ) (l ys : List ℕ) → a ≤ length l → b + j ≤ a → part b j (with_part a k l ys) ≡ part b j l
part_with_below b j a k l ys h g =
    let e : length (take a l) ≡ a = length-take-le a l h in
    let g' : b + j ≤ length (take a l) = omega arith in
    part_front b j (take a l) (ys ++ drop k (drop a l)) g'
    ∙ sym (part_front b j (take a l) (drop a l) g')
    ∙ ap (λ (x : List ℕ). part b j x) (take-append-drop a l)

pub part_with_above : (b j a k : ℕ) (l ys : List ℕ) → a + k ≤ length l → length ys ≡ k → a + k ≤ b → part b j (with_part a k l ys) ≡ part b j l
part_with_above b j a k l ys h q g =
    let e : a + k + (b - (a + k)) ≡ b = omega arith in
    let f : (x : List ℕ) → drop b x ≡ drop (b - (a + k)) (drop (a + k) x) = λ (x : List ℕ). ap (λ (i : ℕ). drop i x) (sym e) ∙ sym (drop-drop (b - (a + k)) (a + k) x) in
    ap (λ (x : List ℕ). take j x) (f (with_part a k l ys) ∙ ap (λ (x : List ℕ). drop (b - (a + k)) x) (drop_with a k l ys h q) ∙ sym (f l))

-- an earlier page ends before a later one starts
before : (size i j : ℕ) → i < j → i * size + size ≤ j * size
before size i j h = one_fits i j size (j * size) h (mul_comm j size)

-- n pages of so many bytes
module _ (size n : ℕ) (l : List ℕ) (h : length l ≡ size * n) where
  -- a page has the page size
  pub page_length : (p : ℕ) → p < n → length (page_in size p l) ≡ size
  page_length p k = length_part (p * size) size l (one_fits p n size (length l) k h)

  -- page p written: as many bytes in all, the page, another page
  module _ (p : ℕ) (k : p < n) (g : List ℕ) (q : length g ≡ size) where
    pub pages_length : length (with_page size p l g) ≡ length l
    pages_length = length_with (p * size) size l g (one_fits p n size (length l) k h) q

    pub page_same : page_in size p (with_page size p l g) ≡ g
    page_same = let f : p * size + size ≤ length l = one_fits p n size (length l) k h in part_with (p * size) size l g (omega arith) q

    pub page_other : (j : ℕ) → j < n → (j ≡ p → ⊥) → page_in size j (with_page size p l g) ≡ page_in size j l
    page_other j i d = go (ltb j p) refl
      where
        f : p * size + size ≤ length l
        f = one_fits p n size (length l) k h

        go : (b : Bool) → ltb j p ≡ b → page_in size j (with_page size p l g) ≡ page_in size j l
        go true e =
            let m : j * size + size ≤ p * size = before size j p (ltb-true j p e) in
            part_with_below (j * size) size (p * size) size l g (omega (arith, f)) m
        go false e =
            let m : p * size + size ≤ j * size = before size p j (omega (arith, ltb-false j p e)) in
            part_with_above (j * size) size (p * size) size l g f q m
