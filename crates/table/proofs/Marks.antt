-- Laws of the walks that mark the pages of rows: which pages are marked, and the turns of the loop.
use Prim.Native.Nat.{ℕ, ◌+◌, ◌≤◌, ◌<◌}
use mathlib.Core.Path.{◌≡◌, refl, sym, ap, ◌∙◌}
use mathlib.Core.Bool.{Bool, true, false, cond, ◌||◌, or-true, or-false}
use mathlib.Core.List.{List, [], ◌∷◌}
use lib.ListN.{length, get_or, set, drop, replicate, length-set, length-replicate, get_or-replicate}
use lib.Seq.{get_or-set_same, get_or-set_other}
use lib.Dec.{eqb}
use borrow.Author.Tests.{eqb-true, eqb-false, eq-eqb}
use Rattle.record.specs.Rows.{keep, any}
use Rattle.record.specs.Record.{page_of, on_page}
use Rattle.record.proofs.Listed.{done_more, done_all}
use Rattle.table.specs.Marks.{mark_pages}

-- a page is marked if it was, or if a row is of it
pub marked_any : (p : ℕ) (rs : List (List ℕ)) (a : List ℕ) → p < length a → eqb (get_or (mark_pages rs a) p 0) 1 ≡ (eqb (get_or a p 0) 1 || any (on_page p) rs)
unfolding mark_pages any
marked_any p [] a h = sym (or-false (eqb (get_or a p 0) 1))
marked_any p (r ∷ rs) a h = marked_any p rs (set a (page_of r) 1) (rw length-set h) ∙ one (eqb (page_of r) p) refl
  where
    one : (x : Bool) → eqb (page_of r) p ≡ x → (eqb (get_or (set a (page_of r) 1) p 0) 1 || any (on_page p) rs) ≡ (eqb (get_or a p 0) 1 || (eqb (page_of r) p || any (on_page p) rs))
    one true e =
        let f : page_of r ≡ p = eqb-true (page_of r) p e in
        rw (f, get_or-set_same a p 1 0 h, eq-eqb p p refl) (sym (or-true (eqb (get_or a p 0) 1)))
    one false e = rw (e, get_or-set_other a (page_of r) p 1 0 (λ f. eqb-false (page_of r) p e (sym f)))

-- from no marks, a page below 1024 is marked exactly if one of the rows is of it
pub marked_page : (k : List (List ℕ)) (a : List ℕ) (p : ℕ) → p < 1024 → a ≡ mark_pages k (replicate 1024 0) → eqb (get_or a p 0) 1 ≡ any (on_page p) k
marked_page k a p h e =
    let n : length {A = ℕ} (replicate 1024 0) ≡ 1024 = length-replicate {A = ℕ} 1024 0 in
    let q : p < length {A = ℕ} (replicate 1024 0) = rw n h in
    ap (λ (x : List ℕ). eqb (get_or x p 0) 1) e ∙ marked_any p k (replicate 1024 0) q ∙ rw (get_or-replicate {A = ℕ} 1024 p 0 0 h)

pub marked_length : (rs : List (List ℕ)) (a : List ℕ) → length (mark_pages rs a) ≡ length a
unfolding mark_pages
marked_length [] a = refl
marked_length (r ∷ rs) a = marked_length rs (set a (page_of r) 1) ∙ length-set a (page_of r) 1

-- a loop that marks the pages of the rows of a kind: the rows still to come make of the marks so far what all rows make of the first
abbrev mark_one : List ℕ → List ℕ → List ℕ
mark_one r a = set a (page_of r) 1

marked_nil : (x : List ℕ) → mark_pages [] x ≡ x
unfolding mark_pages
marked_nil x = refl

marked_cons : (r : List ℕ) (rs : List (List ℕ)) (x : List ℕ) → mark_pages (r ∷ rs) x ≡ mark_pages rs (mark_one r x)
unfolding mark_pages
marked_cons r rs x = refl

module _ (b : List ℕ → Bool) (rs : List (List ℕ)) where
  pub marked_more : (i : ℕ) (x x' z : List ℕ) → i < length rs → x' ≡ cond (b (get_or rs i [])) (set x (page_of (get_or rs i [])) 1) x → mark_pages (keep b (drop i rs)) x ≡ z → mark_pages (keep b (drop (i + 1) rs)) x' ≡ z
  marked_more = done_more mark_pages mark_one marked_nil marked_cons b rs

  pub marked_all : (i : ℕ) (x z : List ℕ) → length rs ≤ i → mark_pages (keep b (drop i rs)) x ≡ z → x ≡ z
  marked_all = done_all mark_pages mark_one marked_nil marked_cons b rs
