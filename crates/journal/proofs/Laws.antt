-- Laws of the checksum, of the sizes and of the header's test.
use Rattle.std.proofs.Common.{◌≡◌, ℕ, suc, ◌+◌, ◌-◌, ◌/◌, ◌%◌, ◌^◌, ◌<◌, ◌≤◌, Bool, true, false, ◌&&◌, eqb, leb, List, [], ◌∷◌, length, get_or, take, sym, refl, ap, ◌∙◌, arith, eq-eqb, eqb-true, leb-true}
use Rattle.word.proofs.Tests.{and_both}
use Rattle.journal.specs.Layout.{first_bytes, is_sector, same, is_header, spaced, sector_of, size_of}

-- `sum::checksum_of`: a turn, and none left
pub sum_turn : (page : List ℕ) (sum sum' at b : ℕ) (total : ℕ) → 200 < at → b ≡ get_or page (at - 200) 0 → sum' ≡ (sum + b) % 2 ^ 32
    → (sum + spaced ((at - 1) / 200) page at) % 2 ^ 32 ≡ total → (sum' + spaced ((at - 200 - 1) / 200) page (at - 200)) % 2 ^ 32 ≡ total
unfolding spaced
sum_turn page sum sum' at b total h eb es inv =
    let n : (at - 1) / 200 ≡ suc ((at - 200 - 1) / 200) = omega arith in
    let inv' : (sum + (get_or page (at - 200) 0 + spaced ((at - 200 - 1) / 200) page (at - 200))) % 2 ^ 32 ≡ total = rw n at inv in
    omega arith

pub sum_done : (page : List ℕ) (sum at total : ℕ) → at ≤ 200 → sum < 2 ^ 32 → (sum + spaced ((at - 1) / 200) page at) % 2 ^ 32 ≡ total → sum ≡ total
unfolding spaced
sum_done page sum at total h k inv =
    let n : (at - 1) / 200 ≡ 0 = omega arith in
    let inv' : (sum + 0) % 2 ^ 32 ≡ total = rw n at inv in
    omega arith

-- `head::is_header`: a list that is the other, and one that is not
same_refl : (l : List ℕ) → same l l ≡ true
unfolding same
same_refl [] = refl
same_refl (x ∷ l) = rw (eq-eqb x x refl) (same_refl l)

same_eq : (l m : List ℕ) → same l m ≡ true → l ≡ m
unfolding same
same_eq [] [] h = refl
same_eq [] (y ∷ m) h = let z : ◌≡◌ {A = ℕ} 0 1 = cc in absurd (omega arith)
same_eq (x ∷ l) [] h = let z : ◌≡◌ {A = ℕ} 0 1 = cc in absurd (omega arith)
same_eq (x ∷ l) (y ∷ m) h =
    let e = and_both (eqb x y) (same l m) h in
    let ex : x ≡ y = eqb-true x y e.0 in
    let el : l ≡ m = same_eq l m e.1 in
    cc

-- what `check::same` says, as the definition says it
pub same_told : (r : Bool) (l m : List ℕ) → (r ≡ true → l ≡ m) → (l ≡ m → r ≡ true) → r ≡ same l m
same_told r l m f g = go r (same l m) refl refl
  where
    go : (a b : Bool) → r ≡ a → same l m ≡ b → r ≡ same l m
    go true b e k = e ∙ sym (ap (λ (x : List ℕ). same x m) (f e) ∙ same_refl m)
    go false true e k = let z : true ≡ false = sym (g (same_eq l m k)) ∙ e in let y : ◌≡◌ {A = ℕ} 0 1 = cc in absurd (omega arith)
    go false false e k = e ∙ sym k

-- what a header tells
pub header_tells : (size : ℕ) (j : List ℕ) → is_header size j ≡ true → (28 ≤ length j) × (is_sector (sector_of j) ≡ true)
unfolding is_header
header_tells size j h =
    let e = and_both (leb 28 (length j) && same (take 8 j) first_bytes && is_sector (sector_of j)) (eqb (size_of j) size) h in
    let f = and_both (leb 28 (length j) && same (take 8 j) first_bytes) (is_sector (sector_of j)) e.0 in
    (leb-true 28 (length j) (and_both (leb 28 (length j)) (same (take 8 j) first_bytes) f.0).0, f.1)
