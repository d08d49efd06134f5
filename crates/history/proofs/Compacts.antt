-- Compact keeps what is right: the page's committed records are folded into its stored page, and its frame, if it keeps one, shows the same page.
use Prim.Native.Nat.{ℕ, ◌-◌, ◌≤◌, ◌<◌}
use native.Mathlib.Omega.{arith}
use mathlib.Core.Path.{◌≡◌, refl, sym, ap, ◌∙◌, subst}
use mathlib.Core.Bool.{Bool, true, false, cond, not, ◌&&◌, ◌||◌, true≢false}
use mathlib.Core.List.{List, ◌++◌}
use lib.ListN.{length, get_or, set}
use lib.Dec.{eqb, leb}
use borrow.Author.Tests.{leb-true, eqb-true}
use Rattle.word.proofs.Tests.{and_both}
use Rattle.record.specs.Rows.{keep, any}
use Rattle.record.specs.Record.{applied, on_page, committed_on, smallest, greatest}
use Rattle.record.proofs.Changes.{length_applied}
use Rattle.record.proofs.Rows.{keep_length}
use Rattle.rules.specs.Lent.{Durable, Lent, pages_of, frames_of, last_of, entry_of, entries_of, order_of, online_of, in_frame, frame_of, is_dirty, clean_in, page_in}
use Rattle.rules.specs.Steps.{freed_of, foldable, due, from_frame, compacted_page, compacted_entry, compacted_order, unfolded, compacted}
use Rattle.redo.proofs.Loose.{◌≅◌}
use Rattle.seats.proofs.Seated.{Seated}
use Rattle.seats.proofs.Places.{half_none, clean_frame, clean_not_dirty, seated_clean, seated_leave}
use Rattle.readback.proofs.Pages.{page_length}
use Rattle.readback.proofs.Seen.{lives_of}
use Rattle.readback.proofs.Lost.{entry_whole, reads_compacted}
use Rattle.keeps.proofs.Compacts.{stays, stays_page, stays_other}
use Rattle.history.specs.Past.{Past}
use Rattle.history.proofs.Right.{Ground, DurableRight, LostRight, Right, rows_of, open_of, above_stamp}
use Rattle.history.proofs.Settle.{settle}
use Rattle.history.proofs.Facts.{done_committed, done_rising, open_unset, ranges}
use Rattle.history.proofs.Known.{rows_last}
use Rattle.history.proofs.Carried.{lost_entry}
use Rattle.history.proofs.Folding.{Folds, stays_none, folds_all, folded_most, above_now, fewer_above, stays_now, page_now}
use Rattle.history.proofs.Restamped.{restamped, stamp_here, stamp_other, page_here, page_there, restamped_right}

module _ {g : Ground} {done opened : List (List ℕ)} {live : ℕ → Bool} {frames : ℕ} {marks stored pool order lives entries : List ℕ} {online : List (List ℕ)}
    (l : LostRight g done opened live frames marks stored pool order lives entries online) (p : ℕ) (k : p < g.pages) where
  -- all of the page's records are committed
  abbrev whole : Bool
  whole = eqb (length (keep (committed_on p) online)) (length (keep (on_page p) online))

  abbrev entry : ℕ
  entry = get_or entries p 0

  entry_there : p < length entries
  entry_there = omega (arith, l.entries_length)

  -- its frame is then the stored page with its committed records
  frame_folded : whole ≡ true → in_frame entry ≡ true → page_in g.size (frame_of entry) pool ≡ applied (keep (committed_on p) online) (page_in g.size p stored)
  frame_folded w f =
      l.frame p k f
      ∙ ap (λ (rs : List (List ℕ)). applied rs (page_in g.size p stored)) (sym (folds_all p online (eqb-true (length (keep (committed_on p) online)) (length (keep (on_page p) online)) w)))

  -- so what is written is that page, whether from the frame or not
  pub folded_written : cond (whole && in_frame entry) (page_in g.size (frame_of entry) pool) (applied (keep (committed_on p) online) (page_in g.size p stored)) ≡ applied (keep (committed_on p) online) (page_in g.size p stored)
  folded_written = pick whole (in_frame entry) refl refl
    where
      pick : (w f : Bool) → whole ≡ w → in_frame entry ≡ f → cond (w && f) (page_in g.size (frame_of entry) pool) (applied (keep (committed_on p) online) (page_in g.size p stored)) ≡ applied (keep (committed_on p) online) (page_in g.size p stored)
      pick true true a b = frame_folded a b
      pick true false a b = refl
      pick false f a b = refl

  -- the marks and stored pages that compact leaves
  module _ (ms st : List ℕ) (is : keep (stays p) online ≅ keep (above_stamp ms) (rows_of g done) ++ opened) (here : page_in g.size p st ≡ applied (keep (committed_on p) online) (page_in g.size p stored))
      (there : (q : ℕ) → q < g.pages → (q ≡ p → ⊥) → page_in g.size q st ≡ page_in g.size q stored) where
    -- the page's entry becomes e, and the use order o
    with_entry : (e : ℕ) (o : List ℕ) → Seated frames (set entries p e) o → is_dirty e ≡ any (on_page p) (keep (stays p) online)
        → (in_frame e ≡ true → page_in g.size (frame_of e) pool ≡ applied (keep (on_page p) (keep (stays p) online)) (page_in g.size p st))
        → LostRight g done opened live frames ms st pool o lives (set entries p e) (keep (stays p) online)
    with_entry e o seat dirt shows = lost_entry l p e k seat is dirt shows (λ q n. stays_other p q n online) there (λ q h n f. refl)

    -- clean in its frame, which is the stored page
    kept_clean : whole ≡ true → in_frame entry ≡ true → LostRight g done opened live frames ms st pool order lives (set entries p (clean_in (frame_of entry))) (keep (stays p) online)
    unfolding applied
    kept_clean w f =
        with_entry (clean_in (frame_of entry)) order (seated_clean l.seated p entry_there f)
        (clean_not_dirty (frame_of entry) ∙ ap not (sym w) ∙ sym (stays_page p online))
        (λ z. ap (λ (x : ℕ). page_in g.size x pool) (clean_frame (frame_of entry)) ∙ frame_folded w f ∙ sym here
        ∙ ap (λ (rs : List (List ℕ)). applied rs (page_in g.size p st)) (sym (stays_none p online (eqb-true (length (keep (committed_on p) online)) (length (keep (on_page p) online)) w))))

    -- in no frame, evicted if a record of the page stays, else absent
    let_go : (w : Bool) → whole ≡ w → LostRight g done opened live frames ms st pool (freed_of entry order) lives (set entries p (cond w 0 1)) (keep (stays p) online)
    let_go w e =
        with_entry (cond w 0 1) (freed_of entry order) (seated_leave l.seated p (cond w 0 1) entry_there (low w))
        (bit w ∙ ap not (sym e) ∙ sym (stays_page p online))
        (λ z. absurd (true≢false (sym z ∙ half_none (cond w 0 1) (low w))))
      where
        low : (t : Bool) → cond t 0 1 ≤ 1
        low true = omega arith
        low false = omega arith

        bit : (t : Bool) → is_dirty (cond t 0 1) ≡ not t
        bit true = refl
        bit false = refl

    pub folded_lost : LostRight g done opened live frames ms st pool (cond (whole && in_frame entry) order (freed_of entry order)) lives (set entries p (cond (whole && in_frame entry) (clean_in (frame_of entry)) (cond whole 0 1))) (keep (stays p) online)
    folded_lost = pick whole (in_frame entry) refl refl
      where
        pick : (w f : Bool) → whole ≡ w → in_frame entry ≡ f
            → LostRight g done opened live frames ms st pool (cond (w && f) order (freed_of entry order)) lives (set entries p (cond (w && f) (clean_in (frame_of entry)) (cond w 0 1))) (keep (stays p) online)
        pick true true a b = kept_clean a b
        pick true false a b = let_go true a
        pick false f a b = let_go false a

-- something is to be folded where compact is due
due_some : (s : Lent) (p min_del max_age : ℕ) → due s p min_del max_age ≡ true → 1 ≤ length (foldable s p)
unfolding due
due_some s p min_del max_age h = leb-true 1 (length (foldable s p)) (and_both (leb 1 (length (foldable s p))) (leb min_del (length (foldable s p)) || leb max_age (last_of s - smallest 0 (foldable s p))) h).0

module _ {g : Ground} {done : List (List ℕ)} {h : Past} {s : Lent} (r : Right g done h s) (p : ℕ) (m : p < pages_of s) (some : 1 ≤ length (foldable s p)) where
  below : p < g.pages
  below = omega (arith, r.durable.pages)

  -- the new stamp, and the page as it is written
  abbrev stamp : ℕ
  stamp = greatest 0 (foldable s p)

  stamp_most : stamp ≤ last_of s
  stamp_most = folded_most p (above_stamp s.durable.marks) (rows_of g done) (open_of h) (online_of s) (done_committed r.past) (open_unset r.past) r.lost.online_is (last_of s) (rows_last g done h s r)

  abbrev all : Bool
  all = eqb (length (foldable s p)) (length (keep (on_page p) (online_of s)))

  abbrev was : List ℕ
  was = page_in g.size p s.durable.stored

  page_written : compacted_page s p ≡ applied (foldable s p) was
  unfolding compacted_page from_frame
  page_written =
      ap (λ (n : ℕ). cond (all && in_frame (entry_of s p)) (page_in n (frame_of (entry_of s p)) s.lost.pool) (applied (foldable s p) (page_in n p s.durable.stored))) r.durable.size
      ∙ ap (λ (e : ℕ). cond (all && in_frame e) (page_in g.size (frame_of e) s.lost.pool) (applied (foldable s p) was)) (entry_whole s p r.whole m)
      ∙ folded_written r.lost p below

  page_long : length (compacted_page s p) ≡ g.size
  page_long = ap (λ (x : List ℕ). length x) page_written ∙ length_applied (foldable s p) was ∙ page_length g.size g.pages s.durable.stored r.durable.stored p below

  -- the durable part that compact leaves
  abbrev after : Durable
  after = restamped s.durable p stamp (compacted_page s p)

  folds : Folds p s.durable.marks after.marks (rows_of g done) (open_of h) (online_of s)
  folds =
      record {
        all_committed = done_committed r.past;
        none_committed = open_unset r.past;
        online_is = r.lost.online_is;
        some = some;
        here = stamp_here r.durable p stamp (compacted_page s p) below stamp_most page_long;
        other = stamp_other r.durable p stamp (compacted_page s p) below stamp_most page_long;
      }

  compact_durable : DurableRight g done after
  compact_durable =
      restamped_right r.durable p stamp (compacted_page s p) below stamp_most page_long
      (fewer_above folds)
      (rw (above_now folds) (keep_length (λ (x : List ℕ). not (on_page p x)) (keep (above_stamp s.durable.marks) (rows_of g done))))
      (page_written
      ∙ ap (λ (x : List ℕ). applied (foldable s p) x) (r.durable.page p below)
      ∙ page_now folds (done_rising r.past) (page_in g.size p g.start))

  -- and the lost part
  compact_lost : LostRight g done (open_of h) h.live (frames_of s) after.marks after.stored s.lost.pool (compacted_order s p) (lives_of s) (set (entries_of s) p (compacted_entry s p)) (unfolded s p)
  unfolding compacted_order compacted_entry from_frame
  compact_lost =
      subst
      (λ (e : ℕ). LostRight g done (open_of h) h.live (frames_of s) after.marks after.stored s.lost.pool (cond (all && in_frame e) (order_of s) (freed_of e (order_of s))) (lives_of s) (set (entries_of s) p (cond (all && in_frame e) (clean_in (frame_of e)) (cond all 0 1))) (unfolded s p))
      (sym (entry_whole s p r.whole m))
      (folded_lost r.lost p below after.marks after.stored
      (stays_now folds)
      (page_here r.durable p stamp (compacted_page s p) below stamp_most page_long ∙ page_written)
      (page_there r.durable p stamp (compacted_page s p) below stamp_most page_long))

  compact_right : Right g done h (compacted s p).lent
  unfolding compacted
  compact_right =
      settle (reads_compacted s p r.whole (ranges r.durable).online_most m) r.past compact_durable compact_lost

-- compact keeps what is right
pub keeps_compact : {g : Ground} {done : List (List ℕ)} {h : Past} {s : Lent} (p min_del max_age : ℕ) → p < pages_of s → due s p min_del max_age ≡ true → Right g done h s → Right g done h (compacted s p).lent
keeps_compact {s = s} p min_del max_age m d r = compact_right r p m (due_some s p min_del max_age d)
