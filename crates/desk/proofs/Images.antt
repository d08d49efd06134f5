-- Over every run that is up, a page's image is the starting page with all committed updates.
use Prim.Native.Nat.{ℕ, ◌<◌}
use native.Mathlib.Omega.{arith}
use mathlib.Core.Path.{◌≡◌, sym, ap, ◌∙◌, subst}
use mathlib.Core.Bool.{Bool, true, false, not, ◌&&◌, and-true, and-false}
use mathlib.Core.List.{List, ◌++◌}
use borrow.Author.Tests.{eqb-true}
use Rattle.word.proofs.Tests.{and_both}
use Rattle.record.specs.Rows.{keep}
use Rattle.record.specs.Record.{page_of, committed, applied, on_page, committed_on}
use Rattle.rules.specs.Lent.{Lent, pages_of, online_of, page_in}
use Rattle.rules.specs.Sound.{every}
use Rattle.rules.proofs.Every.{every_keep}
use Rattle.rules.proofs.Every.{every_imp}
use Rattle.redo.proofs.Order.{◌≈◌}
use Rattle.redo.proofs.Loose.{≅-free}
use Rattle.redo.proofs.Views.{keep_same_where, keep_none, stored_then_online}
use Rattle.redo.proofs.Reader.{two_parts}
use Rattle.history.specs.Past.{Past}
use Rattle.history.specs.Run.{Run}
use Rattle.history.proofs.Right.{Ground, Right, rows_of, open_of, above_stamp}
use Rattle.history.proofs.Facts.{done_committed, done_rising, open_unset}
use Rattle.theorem.proofs.Shows.{run_right}
use Rattle.walwrite.specs.Image.{image_in, image_of}
use Rattle.desk.specs.Desk.{committed_page}

-- of committed records, then uncommitted ones, a page's committed records are those of the first
committed_first : (p : ℕ) (l k o : List (List ℕ)) → l ≈ k ++ o → every committed k ≡ true → every (λ (r : List ℕ). not (committed r)) o ≡ true → (g : List ℕ) → applied (keep (committed_on p) l) g ≡ applied (keep (on_page p) k) g
unfolding applied
committed_first p l k o e c n g =
    two_parts p (committed_on p) (λ r h. eqb-true (page_of r) p (and_both (on_page p r) (committed r) h).0) l k o e g
    ∙ ap (λ (z : List (List ℕ)). applied z (applied (keep (committed_on p) k) g)) (keep_none (committed_on p) o (every_imp (λ (r : List ℕ). not (committed r)) (λ (r : List ℕ). not (committed_on p r)) (λ r h. none (on_page p r) (committed r) h) o n))
    ∙ ap (λ (z : List (List ℕ)). applied z g) (keep_same_where committed (committed_on p) (on_page p) (λ r h. ap (λ (t : Bool). on_page p r && t) h ∙ and-true (on_page p r)) k c)
  where
    none : (a b : Bool) → not b ≡ true → not (a && b) ≡ true
    none a false h = ap not (and-false a)
    none a true h = let z : ◌≡◌ {A = ℕ} 0 1 = cc in absurd (omega arith)

-- the stored page has the committed updates up to its stamp, the online table the others
image_right : {g : Ground} {done : List (List ℕ)} {h : Past} {s : Lent} → Right g done h s → (p : ℕ) → p < pages_of s → image_of s p ≡ committed_page h p
unfolding image_in committed_page
image_right {g} {done} {h} {s} q p m =
    ap (λ (n : ℕ). applied (keep (committed_on p) (online_of s)) (page_in n p s.durable.stored)) q.durable.size
    ∙ committed_first p (online_of s) (keep above rows) (open_of h) (≅-free q.lost.online_is) (every_keep above committed rows (done_committed q.past)) (open_unset q.past) (page_in g.size p s.durable.stored)
    ∙ ap (λ (z : List ℕ). applied (keep (on_page p) (keep above rows)) z) (q.durable.page p (subst (λ (n : ℕ). p < n) q.durable.pages m))
    ∙ stored_then_online s.durable.marks p rows (page_in g.size p g.start) (done_rising q.past)
    ∙ sym (committed_first p h.made rows (open_of h) (≅-free q.past.made) (done_committed q.past) (open_unset q.past) (page_in g.size p g.start))
    ∙ ap (λ (z : List ℕ). applied (keep (committed_on p) h.made) z) (ap (λ (n : ℕ). page_in n p g.start) (sym q.past.size) ∙ ap (λ (l : List ℕ). page_in h.size p l) (sym q.past.start))
  where
    rows : List (List ℕ)
    rows = rows_of g done

    above : List ℕ → Bool
    above = above_stamp s.durable.marks

-- "what the desk reads is what was committed": the image of a page, at every moment of a run that is up
pub image_shows : {h : Past} {s : Lent} → Run h s → h.down ≡ false → (p : ℕ) → p < pages_of s → image_of s p ≡ committed_page h p
image_shows r n p m = image_right (run_right r n).right p m
