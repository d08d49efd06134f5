-- Pages written back one by one: each page is the listed one's image, or as it was.
use Prim.Native.Nat.{ℕ, suc, ◌+◌, ◌*◌, ◌-◌, ◌≤◌, ◌<◌}
use native.Mathlib.Omega.{arith}
use native.Mathlib.Nat.{mul-le-mul_right, suc-mul, eq-or-lt_of_le}
use mathlib.Core.Path.{◌≡◌, refl, sym, ap, ◌∙◌}
use mathlib.Core.Bool.{Bool, true, false, cond, ◌||◌}
use mathlib.Core.Logic.{⊎_elim}
use mathlib.Core.List.{List, [], ◌∷◌, ◌++◌, map}
use lib.ListN.{length, take, drop}
use lib.Seq.{take_at, drop-drop, length-take-le}
use lib.Dec.{eqb, ltb}
use borrow.Author.Tests.{eqb-true, eqb-false, ltb-true, ltb-false}
use Rattle.record.specs.Part.{part, with_part}
use Rattle.record.proofs.Parts.{length_with, part_with, part_front, drop_with}
use Rattle.journal.specs.Playing.{with_saved, restored}
use Rattle.journal.specs.Writing.{any_past, saved_page}
use Rattle.journal.proofs.Writes.{neither, page_span, length_page}
use Rattle.journaltrip.specs.Trip.{is_listed, BroughtBack}

-- a part before or behind another that was changed
before_part : (a k b : ℕ) (l ys : List ℕ) → a ≤ length l → b + k ≤ a → part b k (with_part a k l ys) ≡ part b k l
before_part a k b l ys h q =
    let n : length (take a l) ≡ a = length-take-le a l h in
    let e : take a (with_part a k l ys) ≡ take a l = take_at (take a l) (ys ++ drop k (drop a l)) a n in
    sym (part_front a b k (with_part a k l ys) q) ∙ ap (λ (x : List ℕ). part b k x) e ∙ part_front a b k l q

behind_part : (a k b : ℕ) (l ys : List ℕ) → a + k ≤ length l → length ys ≡ k → a + k ≤ b → part b k (with_part a k l ys) ≡ part b k l
behind_part a k b l ys h n q =
    let s : a + k + (b - (a + k)) ≡ b = omega arith in
    let e : drop b (with_part a k l ys) ≡ drop b l =
    ap (λ (i : ℕ). drop i (with_part a k l ys)) (sym s) ∙ sym (drop-drop (b - (a + k)) (a + k) (with_part a k l ys))
    ∙ ap (λ (x : List ℕ). drop (b - (a + k)) x) (drop_with a k l ys h n) ∙ drop-drop (b - (a + k)) (a + k) l ∙ ap (λ (i : ℕ). drop i l) s
    in
    ap (λ (x : List ℕ). take k x) e

above : (p q : ℕ) → q ≤ p → (p ≡ q → ⊥) → q < p
above p q l h = ⊎_elim (λ k. absurd (h (sym k))) (λ k. k) (eq-or-lt_of_le l)

-- one page written back
module _ (size q : ℕ) (pages g : List ℕ) (there : (q + 1) * size ≤ length pages) (fits : (q + 1) * size ≤ length g) where
  saved_at : with_saved size (saved_page size pages q) g ≡ with_part (q * size) size g (part (q * size) size pages)
  unfolding with_saved
  saved_at = let e : q + 1 - 1 ≡ q = omega arith in rw e

  room : q * size + size ≤ length g
  room = let s : (q + 1) * size ≡ q * size + size = page_span q size in omega arith

  image_long : length (part (q * size) size pages) ≡ size
  image_long = length_page size q pages there

  pub long_one : length (with_saved size (saved_page size pages q) g) ≡ length g
  long_one = ap length saved_at ∙ length_with (q * size) size g (part (q * size) size pages) room image_long

  pub each_one : (p : ℕ) → part (p * size) size (with_saved size (saved_page size pages q) g) ≡ cond (eqb p q) (part (p * size) size pages) (part (p * size) size g)
  each_one p = ap (λ (x : List ℕ). part (p * size) size x) saved_at ∙ go (eqb p q) (ltb p q) refl refl
    where
      go : (b c : Bool) → eqb p q ≡ b → ltb p q ≡ c → part (p * size) size (with_part (q * size) size g (part (q * size) size pages)) ≡ cond b (part (p * size) size pages) (part (p * size) size g)
      go true c e k =
          let s : p ≡ q = eqb-true p q e in
          let r = room in
          rw s (part_with (q * size) size g (part (q * size) size pages) (omega arith) image_long)
      go false true e k =
          let l : p < q = ltb-true p q k in
          let m : suc p * size ≤ q * size = mul-le-mul_right size l in
          let n : suc p * size ≡ p * size + size = suc-mul p size in
          let r = room in
          before_part (q * size) size (p * size) g (part (q * size) size pages) (omega arith) (omega arith)
      go false false e k =
          let l : q ≤ p = ltb-false p q k in
          let m : suc q * size ≤ p * size = mul-le-mul_right size (above p q l (eqb-false p q e)) in
          let n : suc q * size ≡ q * size + size = suc-mul q size in
          behind_part (q * size) size (p * size) g (part (q * size) size pages) room image_long (omega arith)

-- of a page listed, or listed further on
later : (a b : Bool) (x y : List ℕ) → cond b x (cond a x y) ≡ cond (a || b) x y
later true true x y = refl
later true false x y = refl
later false b x y = refl

-- all of them
pub all_back : (size : ℕ) (pages : List ℕ) (list g : List ℕ) → length g ≡ length pages → any_past (length pages) size list ≡ false → BroughtBack size list pages g (restored size (map (saved_page size pages) list) g)
unfolding restored any_past is_listed
all_back size pages [] g h a = record { long = refl; each = λ p. refl }
all_back size pages (q ∷ qs) g h a =
    let n = neither (ltb (length pages) ((q + 1) * size)) (any_past (length pages) size qs) a in
    let there : (q + 1) * size ≤ length pages = ltb-false (length pages) ((q + 1) * size) n.0 in
    let fits : (q + 1) * size ≤ length g = omega arith in
    let one : length (with_saved size (saved_page size pages q) g) ≡ length g = long_one size q pages g there fits in
    let rest = all_back size pages qs (with_saved size (saved_page size pages q) g) (one ∙ h) n.1 in
    record {
      long = rest.long ∙ one;
      each = λ p.
          rest.each p
          ∙ ap (λ (x : List ℕ). cond (is_listed p qs) (part (p * size) size pages) x) (each_one size q pages g there fits p)
          ∙ later (eqb p q) (is_listed p qs) (part (p * size) size pages) (part (p * size) size g);
    }
