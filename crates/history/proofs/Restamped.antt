-- The durable part once a page was compacted: the page is written and has a new stamp, all else is as before. It is right again, since fewer updates are above their stamps.
use Prim.Native.Nat.{ℕ, ◌+◌, ◌*◌, ◌-◌, ◌≤◌, ◌<◌}
use native.Mathlib.Omega.{arith}
use mathlib.Core.Path.{◌≡◌, refl, sym, ap, ◌∙◌}
use mathlib.Core.Bool.{Bool, true, false, not, ◌&&◌, ◌||◌}
use mathlib.Core.List.{List}
use lib.ListN.{length, drop}
use lib.Dec.{eqb, leb, ltb}
use borrow.Author.Tests.{eqb-true, eqb-false}
use Rattle.word.specs.Word.{num, put}
use Rattle.record.specs.Rows.{rows, keep}
use Rattle.record.specs.Record.{page_of, number_of, applied, on_page}
use Rattle.rules.specs.Lent.{Durable, size_of, pages_of, last_of, closed_of, logged_of, first_number_of, stamp_at, stamp_of, dirty_of, page_in, with_page}
use Rattle.rules.specs.Sound.{every, zeros}
use Rattle.redo.proofs.Views.{keep_same}
use Rattle.redo.proofs.Reader.{every_both}
use Rattle.readback.proofs.Seen.{only}
use Rattle.readback.proofs.Marks.{restamped_length, restamped_front, restamped_same, restamped_other, restamped_dirty}
use Rattle.readback.proofs.Pages.{pages_length, page_same, page_other}
use Rattle.history.proofs.Right.{Ground, DurableRight, rows_of, above_stamp}
use Rattle.history.proofs.Facts.{dirt_same, marks_long}

through : (a b c : Bool) → (not a || b) ≡ true → (not b || c) ≡ true → (not a || c) ≡ true
through true true c h k = k
through true false c h k = let z : ◌≡◌ {A = ℕ} 0 1 = cc in absurd (omega arith)
through false b c h k = refl

-- page p is written, and its stamp is n
abbrev pub restamped : Durable → ℕ → ℕ → List ℕ → Durable
restamped d p n page = record { fixed = d.fixed; marks = put 4 d.marks (stamp_at p) n; log = d.log; stored = with_page (size_of (only d)) p d.stored page }

module _ {g : Ground} {done : List (List ℕ)} {d : Durable} (r : DurableRight g done d) (p n : ℕ) (page : List ℕ) (k : p < g.pages) (most : n ≤ last_of (only d)) (long : length page ≡ g.size) where
  abbrev now : Durable
  now = restamped d p n page

  abbrev marks : List ℕ
  marks = now.marks

  abbrev stored : List ℕ
  stored = now.stored

  k' : p < pages_of (only d)
  k' = omega (arith, r.pages)

  small : n ≤ 4294967295
  small = omega (arith, r.bound)

  front : (i : ℕ) → i + 4 ≤ 12 → num 4 marks i ≡ num 4 d.marks i
  front = restamped_front (pages_of (only d)) d.marks (marks_long r) p n k' small

  -- the page's stamp, and the others
  pub stamp_here : num 4 (restamped d p n page).marks (stamp_at p) ≡ n
  stamp_here = restamped_same (pages_of (only d)) d.marks (marks_long r) p n k' small

  pub stamp_other : (q : ℕ) → (q ≡ p → ⊥) → num 4 (restamped d p n page).marks (stamp_at q) ≡ num 4 d.marks (stamp_at q)
  stamp_other = restamped_other (pages_of (only d)) d.marks (marks_long r) p n k' small

  dirty_now : (q : ℕ) → dirty_of (only now) q ≡ dirty_of (only d) q
  dirty_now = restamped_dirty (pages_of (only d)) d.marks (marks_long r) p n k' small

  last_now : last_of (only now) ≡ last_of (only d)
  last_now = front 0 (omega arith)

  closed_now : closed_of (only now) ≡ closed_of (only d)
  closed_now = front 4 (omega arith)

  logged_now : logged_of (only now) ≡ logged_of (only d)
  logged_now = front 8 (omega arith)

  first_now : first_number_of (only now) ≡ first_number_of (only d)
  first_now = ap (λ (m : ℕ). m - logged_of (only now) + 1) last_now ∙ ap (λ (m : ℕ). last_of (only d) - m + 1) logged_now

  -- the page as it is stored, and the others
  area : length d.stored ≡ size_of (only d) * g.pages
  area = r.stored ∙ ap (λ (m : ℕ). m * g.pages) (sym r.size)

  full : length page ≡ size_of (only d)
  full = long ∙ sym r.size

  pub page_here : page_in g.size p (restamped d p n page).stored ≡ page
  page_here = ap (λ (m : ℕ). page_in m p stored) (sym r.size) ∙ page_same (size_of (only d)) g.pages d.stored area p k page full

  pub page_there : (q : ℕ) → q < g.pages → (q ≡ p → ⊥) → page_in g.size q (restamped d p n page).stored ≡ page_in g.size q d.stored
  page_there q h e =
      ap (λ (m : ℕ). page_in m q stored) (sym r.size)
      ∙ page_other (size_of (only d)) g.pages d.stored area p k page full q h e
      ∙ ap (λ (m : ℕ). page_in m q d.stored) r.size

  -- fewer updates are above their stamps, and the page has those up to its own
  module _ (fewer : every (λ (x : List ℕ). not (above_stamp marks x) || above_stamp d.marks x) (rows_of g done) ≡ true) (less : length (keep (above_stamp marks) (rows_of g done)) ≤ length (keep (above_stamp d.marks) (rows_of g done)))
      (is : page ≡ applied (keep (λ (x : List ℕ). on_page p x && not (above_stamp marks x)) (rows_of g done)) (page_in g.size p g.start)) where
    stamps_now : (q : ℕ) → q < g.pages → stamp_of (only now) q ≤ last_of (only now)
    stamps_now q h = go (eqb q p) refl
      where
        go : (t : Bool) → eqb q p ≡ t → stamp_of (only now) q ≤ last_of (only now)
        go true e = let f : stamp_of (only now) q ≡ n = ap (λ (i : ℕ). num 4 marks (stamp_at i)) (eqb-true q p e) ∙ stamp_here in omega (arith, last_now)
        go false e = omega (arith, stamp_other q (eqb-false q p e), last_now, r.stamps q h)

    needed_now : every (λ (x : List ℕ). not (above_stamp marks x) || leb (first_number_of (only now)) (number_of x)) (rows_of g done) ≡ true
    needed_now =
        ap (λ (m : ℕ). every (λ (x : List ℕ). not (above_stamp marks x) || leb m (number_of x)) (rows_of g done)) first_now
        ∙ every_both (λ (x : List ℕ). not (above_stamp marks x) || above_stamp d.marks x) (λ (x : List ℕ). not (above_stamp d.marks x) || leb (first_number_of (only d)) (number_of x)) (λ (x : List ℕ). not (above_stamp marks x) || leb (first_number_of (only d)) (number_of x))
        (λ x. through (above_stamp marks x) (above_stamp d.marks x) (leb (first_number_of (only d)) (number_of x))) (rows_of g done) fewer r.needed

    abbrev enters : Durable → List ℕ → Bool
    enters e x = not (leb (number_of x) (closed_of (only e)) && eqb (dirty_of (only e) (page_of x)) 0)

    enters_now : (x : List ℕ) → enters d x ≡ enters now x
    enters_now x =
        ap (λ (m : ℕ). not (leb (number_of x) m && eqb (dirty_of (only d) (page_of x)) 0)) (sym closed_now)
        ∙ ap (λ (m : ℕ). not (leb (number_of x) (closed_of (only now)) && eqb m 0)) (sym (dirty_now (page_of x)))

    entered_now : every (λ (x : List ℕ). not (above_stamp marks x) || enters now x) (rows_of g done) ≡ true
    entered_now =
        every_both (λ (x : List ℕ). not (above_stamp marks x) || above_stamp d.marks x) (λ (x : List ℕ). not (above_stamp d.marks x) || enters d x) (λ (x : List ℕ). not (above_stamp marks x) || enters now x)
        (λ x a b. ap (λ (t : Bool). not (above_stamp marks x) || t) (sym (enters_now x)) ∙ through (above_stamp marks x) (above_stamp d.marks x) (enters d x) a b) (rows_of g done) fewer r.entered

    -- the stamps of rows of another page
    there_now : (q : ℕ) → (q ≡ p → ⊥) → (x : List ℕ) → (on_page q x && not (above_stamp d.marks x)) ≡ (on_page q x && not (above_stamp marks x))
    there_now q e x = go (on_page q x) refl
      where
        go : (t : Bool) → on_page q x ≡ t → (t && not (above_stamp d.marks x)) ≡ (t && not (above_stamp marks x))
        go true f = ap (λ (m : ℕ). not (ltb m (number_of x))) (sym (stamp_other (page_of x) (λ z. e (sym (eqb-true (page_of x) q f) ∙ z))))
        go false f = refl

    page_now : (q : ℕ) → q < g.pages → page_in g.size q stored ≡ applied (keep (λ (x : List ℕ). on_page q x && not (above_stamp marks x)) (rows_of g done)) (page_in g.size q g.start)
    page_now q h = go (eqb q p) refl
      where
        go : (t : Bool) → eqb q p ≡ t → page_in g.size q stored ≡ applied (keep (λ (x : List ℕ). on_page q x && not (above_stamp marks x)) (rows_of g done)) (page_in g.size q g.start)
        go true e = rw (eqb-true q p e) (page_here ∙ is)
        go false e =
            page_there q h (eqb-false q p e) ∙ r.page q h
            ∙ ap (λ (l : List (List ℕ)). applied l (page_in g.size q g.start)) (keep_same (λ (x : List ℕ). on_page q x && not (above_stamp d.marks x)) (λ (x : List ℕ). on_page q x && not (above_stamp marks x)) (there_now q (eqb-false q p e)) (rows_of g done))

    pub restamped_right : DurableRight g done (restamped d p n page)
    restamped_right =
        record {
          fixed = r.fixed;
          range = r.range;
          size = r.size;
          pages = r.pages;
          marks = restamped_length (pages_of (only d)) d.marks (marks_long r) p n k' small ∙ r.marks;
          log = r.log;
          stored = pages_length (size_of (only d)) g.pages d.stored area p k page full ∙ r.stored;
          last = last_now ∙ r.last;
          bound = omega (arith, last_now, r.bound);
          logged = omega (arith, logged_now, r.logged);
          logged_done = omega (arith, logged_now, r.logged_done);
          log_read = ap (λ (m : ℕ). rows 14 m d.log 0) logged_now ∙ r.log_read ∙ ap (λ (m : ℕ). drop (length done - m) done) (sym logged_now);
          log_zero = ap (λ (m : ℕ). zeros (drop (m * 14) d.log)) logged_now ∙ r.log_zero;
          stamps = stamps_now;
          closed = omega (arith, closed_now, last_now, r.closed);
          dirty = λ q h. dirt_same first_now (dirty_now q) closed_now (r.dirty q h);
          first = omega (arith, first_now, closed_now, r.first);
          needed = needed_now;
          entered = entered_now;
          fits = omega (arith, less, r.fits);
          page = page_now;
        }
