-- Laws of pages written back: one, a turn, all of them.
use Prim.Native.Nat.{ℕ, zero, suc, ◌+◌, ◌*◌, ◌-◌, ◌/◌, ◌≤◌, ◌<◌}
use native.Mathlib.Omega.{arith}
use native.Mathlib.Nat.{suc-mul, mul-le-mul_right, div-mul-le_self}
use mathlib.Core.Path.{◌≡◌, refl, sym, ap, ◌∙◌}
use mathlib.Core.Bool.{false}
use mathlib.Core.List.{List}
use lib.ListN.{length, take, drop}
use lib.Seq.{drop-drop}
use lib.Dec.{eqb, ltb}
use borrow.Author.Tests.{ltb-false, eqb-false}
use Rattle.record.specs.Part.{part, with_part}
use Rattle.record.proofs.Parts.{length_with}
use Rattle.word.specs.Word.{big}
use Rattle.word.proofs.Bigs.{big_at}
use Rattle.journal.specs.Layout.{saved_of, records}
use Rattle.journal.specs.Playing.{is_outside, outside, with_saved, restored}
use Rattle.journal.proofs.Writes.{neither}
use Rattle.journalplay.proofs.Looks.{lent_image, image_length}

-- the page before one of so many
pub page_before : (n size : ℕ) → 1 ≤ n → (n - 1) * size + size ≡ n * size
page_before zero size h = absurd (omega arith)
page_before (suc n) size h = let e : suc n - 1 ≡ n = omega arith in rw e (sym (suc-mul n size))

-- a number that is not outside
pub inside : (lent size number : ℕ) → is_outside (lent / size) number ≡ false → (1 ≤ number) × (number * size ≤ lent)
inside lent size number h =
    let e = neither (eqb number 0) (ltb (lent / size) number) h in
    let z : number ≡ 0 → ⊥ = eqb-false number 0 e.0 in
    let k : number ≤ lent / size = ltb-false (lent / size) number e.1 in
    let m : number * size ≤ lent / size * size = mul-le-mul_right size k in
    let d : lent / size * size ≤ lent = div-mul-le_self lent size in
    (some number z, omega arith)
  where
    some : (n : ℕ) → (n ≡ 0 → ⊥) → 1 ≤ n
    some zero z = absurd (z refl)
    some (suc n) z = omega arith

-- `restore_one`: where the page lies, and the page written there
module _ (n at size : ℕ) (body pages : List ℕ) (e : n ≡ big body at) (some : 1 ≤ big (drop at body) 0) (fits : big (drop at body) 0 * size ≤ length pages) where
  named : big (drop at body) 0 ≡ n
  named = big_at at body ∙ sym e

  pub spot : (1 ≤ n) × ((n - 1) * size + size ≤ length pages)
  spot =
      let h : 1 ≤ n = rw named at some in
      let k : n * size ≤ length pages = rw named at fits in
      let p : (n - 1) * size + size ≡ n * size = page_before n size h in
      (h, omega arith)

  pub written_one : (ys : List ℕ) → at + (size + 8) ≤ length body
      → ys ≡ take (at + 4 + size - (at + 4)) (drop (at + 4) body)
      → with_part ((n - 1) * size) ((n - 1) * size + size - (n - 1) * size) pages ys ≡ with_saved size (saved_of size (drop at body)) pages
  unfolding with_saved
  written_one ys whole q =
      let to : ℕ = (n - 1) * size in
      let d : to + size - to ≡ size = omega arith in
      let r : ys ≡ part 4 size (drop at body) = q ∙ lent_image at size body in
      ap (λ (m : ℕ). with_part to m pages ys) d ∙ ap (λ (x : List ℕ). with_part to size pages x) r
      ∙ ap (λ (m : ℕ). with_part ((m - 1) * size) size pages (part 4 size (drop at body))) (sym named)

-- a page written back keeps the length
pub length_saved : (at size : ℕ) (body pages : List ℕ) → at + (size + 8) ≤ length body → 1 ≤ big (drop at body) 0 → big (drop at body) 0 * size ≤ length pages
    → length (with_saved size (saved_of size (drop at body)) pages) ≡ length pages
unfolding with_saved
length_saved at size body pages whole some fits =
    let n : ℕ = big (drop at body) 0 in
    let p : (n - 1) * size + size ≡ n * size = page_before n size some in
    length_with ((n - 1) * size) size pages (part 4 size (drop at body)) (omega arith) (image_length at size body whole)

-- the records from the place at on are still to be restored
pub record Left (k size : ℕ) (body first : List ℕ) (i at : ℕ) (pages : List ℕ) : Type 0 where
  pub below : i ≤ k
  pub room : (k - i) * (size + 8) + at ≤ length body
  pub inner : outside (length first / size) (records (k - i) size (drop at body)) ≡ false
  pub rest : restored size (records (k - i) size (drop at body)) pages ≡ restored size (records k size body) first
  pub long : length pages ≡ length first

module _ (k size : ℕ) (body first : List ℕ) where
  pub left_all : k * (size + 8) ≤ length body → outside (length first / size) (records k size body) ≡ false → Left k size body first 0 0 first
  left_all h o =
      let e : k - 0 ≡ k = omega arith in
      record { below = omega arith; room = rw e (omega arith); inner = rw e o; rest = rw e; long = refl }

  module _ (i at : ℕ) (pages : List ℕ) (a : Left k size body first i at pages) where
    pub left_none : k ≤ i → pages ≡ restored size (records k size body) first
    unfolding records restored
    left_none h = let e : k - i ≡ 0 = omega arith in rw e at a.rest

    module _ (h : i < k) where
      one : k - i ≡ suc (k - (i + 1))
      one = omega arith

      -- what the next record asks for
      pub left_whole : at + (size + 8) ≤ length body
      left_whole =
          let r : suc (k - (i + 1)) * (size + 8) + at ≤ length body = rw one at a.room in
          let m : suc (k - (i + 1)) * (size + 8) ≡ (k - (i + 1)) * (size + 8) + (size + 8) = suc-mul (k - (i + 1)) (size + 8) in
          omega arith

      split : (is_outside (length first / size) (big (drop at body) 0) ≡ false) × (outside (length first / size) (records (k - (i + 1)) size (drop (size + 8) (drop at body))) ≡ false)
      unfolding records outside
      split = neither (is_outside (length first / size) (big (drop at body) 0)) (outside (length first / size) (records (k - (i + 1)) size (drop (size + 8) (drop at body)))) (rw one at a.inner)

      pub left_inside : (1 ≤ big (drop at body) 0) × (big (drop at body) 0 * size ≤ length pages)
      left_inside =
          let w = inside (length first) size (big (drop at body) 0) split.0 in
          let e = a.long in
          (w.0, omega (arith, w.1))

      pub left_turn : (pages' : List ℕ) → pages' ≡ with_saved size (saved_of size (drop at body)) pages → Left k size body first (i + 1) (at + (size + 8)) pages'
      unfolding records restored
      left_turn pages' e =
          let r : suc (k - (i + 1)) * (size + 8) + at ≤ length body = rw one at a.room in
          let m : suc (k - (i + 1)) * (size + 8) ≡ (k - (i + 1)) * (size + 8) + (size + 8) = suc-mul (k - (i + 1)) (size + 8) in
          let d : drop (size + 8) (drop at body) ≡ drop (at + (size + 8)) body = drop-drop (size + 8) at body in
          let w = left_inside in
          record {
            below = omega arith;
            room = omega arith;
            inner = rw d at split.1;
            rest = rw (← d, e) (rw one at a.rest);
            long = ap length e ∙ length_saved at size body pages left_whole w.0 w.1 ∙ a.long;
          }
