-- Close keeps what is right: no record is dropped that a stored page lacks, and restart will pass over none of these.
use Prim.Native.Nat.{ℕ, zero, suc, ◌+◌, ◌-◌, ◌≤◌, ◌<◌}
use native.Mathlib.Omega.{arith}
use mathlib.Core.Path.{◌≡◌, refl, sym, ap, ◌∙◌, subst}
use mathlib.Core.Logic.{◌⊎◌, inl, inr}
use mathlib.Core.Bool.{Bool, true, false, cond, not, ◌&&◌, ◌||◌}
use mathlib.Core.List.{List, ◌++◌}
use lib.ListN.{length, drop}
use lib.Seq.{drop-drop}
use lib.Dec.{eqb, leb, ltb}
use borrow.Author.Tests.{eqb-true, eqb-false, eq-eqb, ne_eqb, leb-true, le-leb, ltb-true, ltb-false, lt-ltb, le-ltb}
use Rattle.word.proofs.Tests.{and_both, and_in}
use Rattle.record.specs.Rows.{keep}
use Rattle.record.specs.Record.{page_of, number_of, committed, applied, on_page, committed_on, smallest}
use Rattle.rules.specs.Lent.{Lent, pages_of, frames_of, online_size_of, last_of, closed_of, logged_of, dirty_of, first_number_of, log_of, order_of, entries_of, online_of, page_in}
use Rattle.rules.specs.Sound.{every, between}
use Rattle.rules.specs.Steps.{dropped_by, closed}
use Rattle.rules.proofs.Extremes.{has_number, number_at_most, least as least_of, smallest_nothing, smallest_split}
use Rattle.rules.proofs.Needed.{dropped_below}
use Rattle.rules.specs.Shape.{page_below}
use Rattle.rules.proofs.Every.{every_imp, every_keep}
use Rattle.redo.proofs.Loose.{◌≅◌}
use Rattle.redo.proofs.Views.{keep_same_where, keep_both, keep_all, keep_none}
use Rattle.redo.proofs.Reader.{every_both}
use Rattle.readback.proofs.Seen.{lives_of}
use Rattle.readback.proofs.Marks.{marks_close, last_close, closed_close, logged_close, stamp_close, dirty_close}
use Rattle.readback.proofs.Log.{log_close, log_zero_close, log_length_close}
use Rattle.readback.proofs.Lost.{reads_closed}
use Rattle.keeps.proofs.Tests.{every_all}
use Rattle.history.specs.Past.{Past}
use Rattle.history.proofs.Right.{Ground, DurableRight, LostRight, Right, rows_of, open_of, above_stamp}
use Rattle.history.proofs.Settle.{settle}
use Rattle.history.proofs.Facts.{done_paged, done_committed, open_unset, open_every, dirt_same, marks_long, logged_last, online_each}
use Rattle.history.proofs.Known.{rows_last}
use Rattle.history.proofs.Aborts.{online_below}
use Rattle.history.proofs.Carried.{lost_restated}
use Rattle.history.proofs.Least.{kept_numbered, kept_from, least_within, lacked_from, lacked_dirty}

-- a row above its stamp, said by other words
imply : (a b c : Bool) → (b ≡ true → c ≡ true) → (not a || b) ≡ true → (not a || c) ≡ true
imply true b c f h = f h
imply false b c f h = refl

both_then : (a b c : Bool) → (not a || b) ≡ true → c ≡ true → (not a || (b && c)) ≡ true
both_then true b c h k = and_in b c h k
both_then false b c h k = refl

module _ (g : Ground) (done : List (List ℕ)) (h : Past) (s : Lent) (r : Right g done h s) where
  abbrev after : Lent
  after = (closed s).lent

  abbrev above : List ℕ → Bool
  above q = above_stamp s.durable.marks q

  abbrev least : ℕ
  least = smallest 0 (keep committed (online_of s))

  small : logged_of s ≤ 4294967295
  small = omega (arith, logged_last r.durable, r.durable.bound)

  below : (p : ℕ) → p < g.pages → p < pages_of s
  below p k = omega (arith, r.durable.pages)

  -- where the updates that no stored page holds are numbered from `first` on, their numbers are from there to L
  to_last : (first : ℕ) → every (λ (q : List ℕ). not (above q) || leb first (number_of q)) (rows_of g done) ≡ true → every (λ (q : List ℕ). not (above q) || between first (number_of q) (last_of s)) (rows_of g done) ≡ true
  to_last first k =
      every_both (λ (q : List ℕ). not (above q) || leb first (number_of q)) (number_at_most (last_of s)) (λ (q : List ℕ). not (above q) || between first (number_of q) (last_of s))
      (λ q a b. both_then (above q) (leb first (number_of q)) (leb (number_of q) (last_of s)) a b) (rows_of g done) k (rows_last g done h s r)

  numbers_small : every (number_at_most 4294967295) (online_of s) ≡ true
  numbers_small =
      online_each r (number_at_most 4294967295)
      (every_imp (number_at_most (last_of s)) (number_at_most 4294967295) (λ q e. le-leb (number_of q) 4294967295 (omega (arith, leb-true (number_of q) (last_of s) e, r.durable.bound))) (rows_of g done) (rows_last g done h s r))
      (open_every r.past (number_at_most 4294967295) (λ q f. le-leb (number_of q) 4294967295 (omega (arith, f.number))))

  -- the smallest number of all: none, or one of the log's
  least_logged : (least ≡ 0) ⊎ ((first_number_of s ≤ least) × (least ≤ last_of s))
  least_logged = least_within above (rows_of g done) (open_of h) r.lost.online_is (first_number_of s) (last_of s) (omega arith) (to_last (first_number_of s) r.durable.needed) (open_unset r.past) committed (λ q e. e)

  -- what is dropped: all of the log, or what is before that number
  dropped_all : least ≡ 0 → dropped_by s ≡ logged_of s
  unfolding dropped_by
  dropped_all e = rw (eq-eqb least 0 e)

  dropped_before : 1 ≤ least → dropped_by s ≡ least - first_number_of s
  unfolding dropped_by
  dropped_before e = rw (ne_eqb least 0 (λ z. omega arith))

  dropped_few : dropped_by s ≤ logged_of s
  dropped_few = go least_logged
    where
      go : (least ≡ 0) ⊎ ((first_number_of s ≤ least) × (least ≤ last_of s)) → dropped_by s ≤ logged_of s
      go (inl e) = omega (arith, dropped_all e)
      go (inr e) =
          let d : dropped_by s ≡ least - first_number_of s = dropped_before (omega (arith, e.0)) in
          omega (arith, d, e.0, e.1, logged_last r.durable)

  -- L stays, K becomes L, the log begins behind what is dropped
  last_same : last_of after ≡ last_of s
  last_same = last_close s (marks_long r.durable) r.durable.bound small

  closed_is : closed_of after ≡ last_of s
  closed_is = closed_close s (marks_long r.durable) r.durable.bound small

  logged_is : logged_of after ≡ logged_of s - dropped_by s
  logged_is = logged_close s (marks_long r.durable) r.durable.bound small

  first_is : first_number_of after ≡ first_number_of s + dropped_by s
  first_is = omega (arith, dropped_few, logged_last r.durable, last_same, logged_is)

  -- the committed online records have numbers
  numbers_there : every has_number (keep committed (online_of s)) ≡ true
  numbers_there = kept_numbered above (rows_of g done) (open_of h) r.lost.online_is (first_number_of s) (last_of s) (omega arith) (to_last (first_number_of s) r.durable.needed) (open_unset r.past) committed (λ q e. e)

  -- what no stored page holds is online, and no record is dropped that is still online: so it is still in the log
  needed_after : every (λ (q : List ℕ). not (above q) || leb (first_number_of after) (number_of q)) (rows_of g done) ≡ true
  needed_after =
      ap (λ (n : ℕ). every (λ (q : List ℕ). not (above q) || leb n (number_of q)) (rows_of g done)) first_is
      ∙ lacked_from above (rows_of g done) (open_of h) r.lost.online_is (done_committed r.past) (first_number_of s + dropped_by s)
      (dropped_below s numbers_there
      (kept_from above (rows_of g done) (open_of h) r.lost.online_is (first_number_of s) (last_of s) (omega arith) (to_last (first_number_of s) r.durable.needed) (open_unset r.past) committed (λ q e. e)))

  -- a page's dirty number is none, or one of the log's
  dirty_is : (p : ℕ) → p < g.pages → dirty_of after p ≡ smallest 0 (keep (committed_on p) (online_of s))
  dirty_is p k = dirty_close s (marks_long r.durable) r.durable.bound small p (below p k) numbers_small

  dirty_after : (p : ℕ) → p < g.pages → (dirty_of after p ≡ 0) ⊎ ((first_number_of after ≤ dirty_of after p) × (dirty_of after p ≤ closed_of after))
  dirty_after p k =
      dirt_same refl (dirty_is p k) closed_is
      (least_within above (rows_of g done) (open_of h) r.lost.online_is (first_number_of after) (last_of s) (omega arith) (to_last (first_number_of after) needed_after) (open_unset r.past) (committed_on p) (λ q e. (and_both (eqb (page_of q) p) (committed q) e).1))

  -- the stamps stay, so the same rows are above them
  above_same : (q : List ℕ) → page_below g.pages q ≡ true → above_stamp after.durable.marks q ≡ above q
  above_same q e = ap (λ (n : ℕ). ltb n (number_of q)) (stamp_close s (marks_long r.durable) r.durable.bound small (page_of q) (below (page_of q) (ltb-true (page_of q) g.pages e)))

  lacked_same : keep (above_stamp after.durable.marks) (rows_of g done) ≡ keep above (rows_of g done)
  lacked_same = keep_same_where (page_below g.pages) (above_stamp after.durable.marks) above above_same (rows_of g done) (done_paged r.past)

  -- a test of the rows above their stamps, by the stamps after
  restamped : (c : List ℕ → Bool) → every (λ (q : List ℕ). not (above q) || c q) (rows_of g done) ≡ true → every (λ (q : List ℕ). not (above_stamp after.durable.marks q) || c q) (rows_of g done) ≡ true
  restamped c k =
      every_both (page_below g.pages) (λ (q : List ℕ). not (above q) || c q) (λ (q : List ℕ). not (above_stamp after.durable.marks q) || c q)
      (λ q a b. ap (λ (t : Bool). not t || c q) (above_same q a) ∙ b) (rows_of g done) (done_paged r.past) k

  -- restart passes over none of them: the page of each has a dirty number
  entered_after : every (λ (q : List ℕ). not (above q) || not (leb (number_of q) (closed_of after) && eqb (dirty_of after (page_of q)) 0)) (rows_of g done) ≡ true
  entered_after =
      every_both (page_below g.pages) (λ (q : List ℕ). not (above q) || leb 1 (smallest 0 (keep (committed_on (page_of q)) (online_of s))))
      (λ (q : List ℕ). not (above q) || not (leb (number_of q) (closed_of after) && eqb (dirty_of after (page_of q)) 0))
      (λ q a b. imply (above q) (leb 1 (smallest 0 (keep (committed_on (page_of q)) (online_of s)))) (not (leb (number_of q) (closed_of after) && eqb (dirty_of after (page_of q)) 0)) (tell q a) b)
      (rows_of g done) (done_paged r.past)
      (lacked_dirty above (rows_of g done) (open_of h) r.lost.online_is (first_number_of s) (last_of s) (omega arith) (to_last (first_number_of s) r.durable.needed) (open_unset r.past) (done_committed r.past))
    where
      no_both : (a b : Bool) → b ≡ false → not (a && b) ≡ true
      no_both true b e = ap not e
      no_both false b e = refl

      tell : (q : List ℕ) → page_below g.pages q ≡ true → leb 1 (smallest 0 (keep (committed_on (page_of q)) (online_of s))) ≡ true → not (leb (number_of q) (closed_of after) && eqb (dirty_of after (page_of q)) 0) ≡ true
      tell q a b =
          let d : dirty_of after (page_of q) ≡ smallest 0 (keep (committed_on (page_of q)) (online_of s)) = dirty_is (page_of q) (ltb-true (page_of q) g.pages a) in
          let e : 1 ≤ smallest 0 (keep (committed_on (page_of q)) (online_of s)) = leb-true 1 (smallest 0 (keep (committed_on (page_of q)) (online_of s))) b in
          no_both (leb (number_of q) (closed_of after)) (eqb (dirty_of after (page_of q)) 0) (ne_eqb (dirty_of after (page_of q)) 0 (λ z. omega arith))

  log_after : log_of after ≡ drop (length done - logged_of after) done
  log_after =
      let e : length done - logged_of s + dropped_by s ≡ length done - logged_of after = omega (arith, r.durable.logged_done, logged_is, dropped_few) in
      log_close s (marks_long r.durable) r.durable.log r.durable.logged r.durable.bound small
      ∙ ap (λ (l : List (List ℕ)). drop (dropped_by s) l) r.durable.log_read
      ∙ drop-drop (dropped_by s) (length done - logged_of s) done
      ∙ ap (λ (n : ℕ). drop n done) e

  durable_after : DurableRight g done after.durable
  unfolding closed
  durable_after =
      record {
        fixed = r.durable.fixed;
        range = r.durable.range;
        size = r.durable.size;
        pages = r.durable.pages;
        marks = marks_close s (marks_long r.durable) r.durable.bound small ∙ r.durable.marks;
        log = log_length_close s (marks_long r.durable) r.durable.log r.durable.logged r.durable.bound small ∙ r.durable.log;
        stored = r.durable.stored;
        last = last_same ∙ r.durable.last;
        bound = omega (arith, last_same, r.durable.bound);
        logged = omega (arith, logged_is, r.durable.logged);
        logged_done = omega (arith, logged_is, r.durable.logged_done);
        log_read = log_after;
        log_zero = log_zero_close s (marks_long r.durable) r.durable.log r.durable.logged r.durable.bound small;
        stamps = λ p k. omega (arith, stamp_close s (marks_long r.durable) r.durable.bound small p (below p k), last_same, r.durable.stamps p k);
        closed = omega (arith, closed_is, last_same);
        dirty = dirty_after;
        first = omega (arith, closed_is, last_same);
        needed = restamped (λ (q : List ℕ). leb (first_number_of after) (number_of q)) needed_after;
        entered = restamped (λ (q : List ℕ). not (leb (number_of q) (closed_of after) && eqb (dirty_of after (page_of q)) 0)) entered_after;
        fits = subst (λ (l : List (List ℕ)). length l ≤ online_size_of s) (sym lacked_same) r.durable.fits;
        page = λ p k. r.durable.page p k
            ∙ ap (λ (l : List (List ℕ)). applied l (page_in g.size p g.start))
            (sym (keep_same_where (page_below g.pages) (λ (q : List ℕ). on_page p q && not (above_stamp after.durable.marks q)) (λ (q : List ℕ). on_page p q && not (above q)) (λ q e. ap (λ (t : Bool). on_page p q && not t) (above_same q e)) (rows_of g done) (done_paged r.past)));
      }

  lost_after : LostRight g done (open_of h) h.live (frames_of after) after.durable.marks after.durable.stored after.lost.pool (order_of s) (lives_of s) (entries_of s) (online_of s)
  unfolding closed
  lost_after = lost_restated r.lost (subst (λ (k : List (List ℕ)). online_of s ≅ k ++ open_of h) (sym lacked_same) r.lost.online_is) (λ p. refl) (λ p page. refl)

-- the smallest nonzero dirty number of the first n pages, or 0
unfoldable pub least_dirty : Lent → ℕ → ℕ
least_dirty s zero = 0
least_dirty s (suc n) = least_of (least_dirty s n) (dirty_of s n)

one_more : (p n : ℕ) → ltb p (suc n) ≡ (ltb p n || eqb p n)
one_more p n = go (ltb p n) refl (eqb p n) refl
  where
    go : (x : Bool) → ltb p n ≡ x → (y : Bool) → eqb p n ≡ y → ltb p (suc n) ≡ (x || y)
    go true e y f = lt-ltb p (suc n) (omega (arith, ltb-true p n e))
    go false e true f = lt-ltb p (suc n) (omega (arith, eqb-true p n f))
    go false e false f = let d : (p ≡ n → ⊥) = eqb-false p n f in le-ltb p (suc n) (omega (arith, ltb-false p n e))

-- what close drops is what the new dirty table says: the log's records below its smallest number, or all if it has none
module _ {g : Ground} {done : List (List ℕ)} {h : Past} {s : Lent} (r : Right g done h s) where
  abbrev still : List (List ℕ)
  still = keep committed (online_of s)

  least_below : (n : ℕ) → n ≤ pages_of s → least_dirty (closed s).lent n ≡ smallest 0 (keep (λ (q : List ℕ). ltb (page_of q) n) still)
  unfolding least_dirty
  least_below zero m = sym (ap (λ (l : List (List ℕ)). smallest 0 l) (keep_none (λ (q : List ℕ). ltb (page_of q) 0) still (every_all (λ (q : List ℕ). not (ltb (page_of q) 0)) (λ q. ap not (le-ltb (page_of q) 0 (omega arith))) still)) ∙ smallest_nothing)
  least_below (suc n) m =
      let k : n < g.pages = omega (arith, r.durable.pages) in
      let d : dirty_of (closed s).lent n ≡ smallest 0 (keep (on_page n) still) = dirty_is g done h s r n k ∙ ap (λ (l : List (List ℕ)). smallest 0 l) (sym (keep_both (on_page n) committed (online_of s))) in
      (λ i. least_of (least_below n (omega arith) i) (d i))
      ∙ sym (smallest_split (λ (q : List ℕ). ltb (page_of q) n) (on_page n) (λ (q : List ℕ). ltb (page_of q) (suc n)) (λ q. one_more (page_of q) n) still (numbers_there g done h s r))

  pub close_drops : dropped_by s ≡ cond (eqb (least_dirty (closed s).lent (pages_of s)) 0) (logged_of s) (least_dirty (closed s).lent (pages_of s) - first_number_of s)
  unfolding dropped_by
  close_drops =
      let all : keep (λ (q : List ℕ). ltb (page_of q) (pages_of s)) still ≡ still = keep_all (λ (q : List ℕ). ltb (page_of q) (pages_of s)) still (every_keep committed (λ (q : List ℕ). ltb (page_of q) (pages_of s)) (online_of s) (online_below r)) in
      let e : least_dirty (closed s).lent (pages_of s) ≡ smallest 0 still = least_below (pages_of s) (omega arith) ∙ ap (λ (l : List (List ℕ)). smallest 0 l) all in
      sym (ap (λ (n : ℕ). cond (eqb n 0) (logged_of s) (n - first_number_of s)) e)

-- close keeps what is right
pub keeps_close : {g : Ground} {done : List (List ℕ)} {h : Past} {s : Lent} → Right g done h s → Right g done h (closed s).lent
keeps_close {g} {done} {h} {s} r = settle (reads_closed s r.whole) r.past (durable_after g done h s r) (lost_after g done h s r)
