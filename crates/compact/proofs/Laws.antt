-- Laws of compact's functions: what was read and decided is what the step says.
use Prim.Native.Nat.{ℕ, ◌+◌, ◌*◌, ◌-◌, ◌≤◌, ◌<◌}
use native.Mathlib.Omega.{arith}
use mathlib.Core.Path.{◌≡◌, refl, sym, ap, ◌∙◌}
use mathlib.Core.Bool.{Bool, true, false, cond, not, ◌&&◌, ◌||◌}
use mathlib.Core.List.{List}
use lib.ListN.{length, get_or, take, drop, set}
use lib.Dec.{leb}
use borrow.Author.Tests.{not-true, not-false}
use Rattle.word.specs.Word.{num, put}
use Rattle.record.specs.Rows.{rows, keep, table}
use Rattle.record.specs.Record.{on_page, committed_on, applied, smallest, greatest}
use Rattle.record.proofs.Parts.{one_fits}
use Rattle.rules.proofs.Tables.{entry_below}
use Rattle.table.specs.Stays.{stays}
use Rattle.table.specs.Seen.{Surveyed}
use Rattle.table.proofs.Laws.{keep_rows_between}
use Rattle.table.specs.declared.page.Survey.{Survey}
use Rattle.order.specs.Order.{without}
use Rattle.rules.specs.Lent.{Lent, lent_of, size_of, pages_of, frames_of, online_size_of, count_of, stamp_at, order_of, entry_at, entry_of, online_of, in_frame, frame_of, page_in, with_page, with_order, with_count}
use Rattle.rules.specs.Shape.{Shaped}
use Rattle.rules.specs.Steps.{due, foldable, from_frame, compacted_page, compacted_entry, compacted_order, unfolded, compacted, compact_step}
use Rattle.std.specs.Prelude.{Option, Some, None, IfSome}
use Rattle.number.specs.declared.FrameNo.{FrameNo}
use Rattle.rules.specs.declared.Params.{Params}
use Rattle.layout.specs.Read.{ParamsRead}
use Rattle.frames.specs.Freed.{order_without}
use Rattle.frames.proofs.Laws.{in_frame_placed}
use Rattle.compact.specs.declared.Plan.{Plan}
use Rattle.compact.specs.Planned.{Named, Planned, page_from}

-- `compact_step`
pub due_read : (fixed marks log stored tables online pool : List ℕ) (p min_del max_age m n least last a : ℕ) (r : Bool) → m ≡ num 2 tables 0
    → n ≡ length (keep (committed_on p) (rows 19 m online 0)) → least ≡ smallest 0 (keep (committed_on p) (rows 19 m online 0)) → last ≡ num 4 marks 0 → a ≡ last - least
    → r ≡ (leb 1 n && (leb min_del n || leb max_age a)) → r ≡ due (lent_of fixed marks log stored tables online pool) p min_del max_age
unfolding due
due_read fixed marks log stored tables online pool p min_del max_age m n least last a r em en el e_l ea er = rw (← em, ← e_l, ← el, ← ea, ← en) er

-- a frame that is named, in the words of the test
pub page_named : (b : Bool) (k size : ℕ) (r : Option FrameNo) (pool x : List ℕ) → Named b k r → page_from r size pool x ≡ cond b (page_in size k pool) x
page_named b k size (Some f) pool x h = rw (h.0, h.1)
page_named b k size None pool x h = rw h

order_named : (b : Bool) (k : ℕ) (r : Option FrameNo) (o : List ℕ) → Named b k r → order_without r o ≡ cond b (without k o) o
order_named b k (Some f) o h = rw (h.0, h.1)
order_named b k None o h = rw h

-- the plan by a survey, in the words of the rows
pub planned_seen : (tables online : List ℕ) (p e m : ℕ) (v : Survey) (r : Plan) → m ≡ num 2 tables 0 → Surveyed p (rows 19 (num 2 tables 0) online 0) v → Planned v.committed v.all e v.most r
    → Planned (length (keep (committed_on p) (rows 19 m online 0))) (length (keep (on_page p) (rows 19 m online 0))) e (greatest 0 (keep (committed_on p) (rows 19 m online 0))) r
planned_seen tables online p e m v r c s k = rw c (rw (s.committed, s.all, s.most) at k)

-- the order as the plan has it, and as the step has it
order_pick : (x y : Bool) (o q : List ℕ) → cond (not x && y) q o ≡ cond x o (cond y q o)
order_pick true y o q = refl
order_pick false y o q = refl

order_either : (s : Lent) (p : ℕ) (r : Option FrameNo) → Named (not (from_frame s p) && in_frame (entry_of s p)) (frame_of (entry_of s p)) r → order_without r (order_of s) ≡ compacted_order s p
unfolding compacted_order
order_either s p r h = order_named _ _ r (order_of s) h ∙ order_pick (from_frame s p) (in_frame (entry_of s p)) (order_of s) (without (frame_of (entry_of s p)) (order_of s))

and_right : (x y : Bool) → (x && y) ≡ true → y ≡ true
and_right true y h = h
and_right false y h = absurd (mathlib.Core.Bool.false≢true h)

-- what was read and planned, in the words of the step
module _ (fixed marks log stored tables online pool : List ℕ) (p : ℕ) (given : Params) (count : ℕ) (r : Plan) (m : ParamsRead fixed given) (counted : count ≡ num 2 tables 0)
    (k : Planned (length (keep (committed_on p) (rows 19 count online 0))) (length (keep (on_page p) (rows 19 count online 0))) (get_or tables (entry_at given.frames p) 0) (greatest 0 (keep (committed_on p) (rows 19 count online 0))) r) where
  abbrev lent : Lent
  lent = lent_of fixed marks log stored tables online pool

  meant : Planned (length (foldable lent p)) (length (keep (on_page p) (online_of lent))) (entry_of lent p) (greatest 0 (foldable lent p)) r
  meant = rw (counted, m.frames) at k

  from : Named (from_frame lent p) (frame_of (entry_of lent p)) r.from
  unfolding from_frame
  from = meant.from

  frees : Named (not (from_frame lent p) && in_frame (entry_of lent p)) (frame_of (entry_of lent p)) r.frees
  unfolding from_frame
  frees = meant.frees

  entry : r.entry ≡ compacted_entry lent p
  unfolding from_frame compacted_entry
  entry = meant.entry

  pub reads_done : r.reads ≡ (compacted lent p).reads
  unfolding from_frame compacted
  reads_done = meant.reads

  -- the rows that the survey leaves out hold none to fold in
  page_done : (v : Survey) → Surveyed p (online_of lent) v → (l : List ℕ)
      → l ≡ with_page given.size p stored (page_from r.from given.size pool (applied (keep (committed_on p) (take (v.to - v.from) (drop v.from (rows 19 count online 0)))) (page_in given.size p stored)))
      → l ≡ with_page (size_of lent) p stored (compacted_page lent p)
  unfolding compacted_page
  page_done v u l e =
      e ∙ ap (λ (rs : List (List ℕ)). with_page given.size p stored (page_from r.from given.size pool (applied rs (page_in given.size p stored)))) (ap (λ (n : ℕ). keep (committed_on p) (take (v.to - v.from) (drop v.from (rows 19 n online 0)))) counted ∙ keep_rows_between (committed_on p) (online_of lent) v.from v.to u.from u.to u.ordered u.within)
      ∙ (rw (page_named _ _ given.size r.from pool _ from, m.size))

  order_done : order_without r.frees (order_of lent) ≡ compacted_order lent p
  order_done = order_either lent p r.frees frees

  tables_done : (l : List ℕ)
      → l ≡ with_count (length (keep (stays false 0 p) (rows 19 count online 0))) (with_order given.frames (order_without r.frees (order_of lent)) (set tables (entry_at given.frames p) r.entry))
      → l ≡ with_count (length (unfolded lent p)) (with_order (frames_of lent) (compacted_order lent p) (set tables (entry_at (frames_of lent) p) (compacted_entry lent p)))
  tables_done l e = e ∙ (rw (m.frames, counted, entry, order_done))

  online_done : (l : List ℕ) → l ≡ table 19 given.online (keep (stays false 0 p) (rows 19 count online 0)) → l ≡ table 19 (online_size_of lent) (unfolded lent p)
  online_done l e = e ∙ (rw (m.online, counted))

  pub lent_done : (v : Survey) → Surveyed p (online_of lent) v → (marks' stored' tables' online' : List ℕ)
      → stored' ≡ with_page given.size p stored (page_from r.from given.size pool (applied (keep (committed_on p) (take (v.to - v.from) (drop v.from (rows 19 count online 0)))) (page_in given.size p stored)))
      → tables' ≡ with_count (length (keep (stays false 0 p) (rows 19 count online 0))) (with_order given.frames (order_without r.frees (order_of lent)) (set tables (entry_at given.frames p) r.entry))
      → online' ≡ table 19 given.online (keep (stays false 0 p) (rows 19 count online 0))
      → marks' ≡ put 4 marks (12 + 4 * p) r.stamp
      → lent_of fixed marks' log stored' tables' online' pool ≡ (compacted lent p).lent
  unfolding compacted
  lent_done v u marks' stored' tables' online' es et eo em = λ i. lent_of fixed (f i) log (page_done v u stored' es i) (tables_done tables' et i) (online_done online' eo i) pool
    where
      f : marks' ≡ put 4 marks (stamp_at p) (greatest 0 (foldable lent p))
      f = em ∙ ap (λ (x : ℕ). put 4 marks (12 + 4 * p) x) meant.stamp

  -- what the inner functions ask
  pub page_there : (v : Survey) → Surveyed p (online_of lent) v → Shaped lent → p < pages_of lent → (p * given.size + given.size ≤ length stored) × IfSome r.from (λ f. f.0 * given.size + given.size ≤ length pool)
  unfolding from_frame
  page_there v u w h =
      let y = w.sized in (
        rw m.size (one_fits p (pages_of lent) (size_of lent) (length stored) h y.stored),
        frame_fits r.from from,
      )
    where
      frame_fits : (q : Option FrameNo) → Named (from_frame lent p) (frame_of (entry_of lent p)) q → IfSome q (λ f. f.0 * given.size + given.size ≤ length pool)
      frame_fits (Some f) n =
          let l : f.0 < frames_of lent = omega (arith, entry_below lent p w h, n.1, in_frame_placed (entry_of lent p) (and_right _ _ n.0)) in
          rw m.size (one_fits f.0 (frames_of lent) (size_of lent) (length pool) l w.sized.pool)
      frame_fits None n = tt

  pub tables_there : (v : Survey) → Surveyed p (online_of lent) v → Shaped lent → p < pages_of lent → (entry_at given.frames p < length tables) × (get_or tables 2 0 ≤ given.frames) × (given.frames ≤ 64) × (length online ≡ given.online * 19) × (count ≤ given.online) × Surveyed p (rows 19 count online 0) v
  tables_there v u w h = let y = w.sized in rw (m.frames, m.online, counted) (omega arith, w.used, y.frames, omega arith, w.count, u)

-- one page is written
pub writes_done : (s : Lent) (p : ℕ) → 1 ≡ (compacted s p).writes
unfolding compacted
writes_done s p = refl

-- a survey of as many rows as there are
pub surveyed_all : (p m : ℕ) (s : Lent) (v : Survey) → m ≡ count_of s → Surveyed p (rows 19 m s.lost.online 0) v → Surveyed p (online_of s) v
surveyed_all p m s v e k = rw e at k

-- `compact_step`
pub step_not : (min_del max_age p : ℕ) (s : Lent) (b : Bool) → b ≡ due s p min_del max_age → not b ≡ true
    → (0 ≡ (compact_step min_del max_age s p).reads) × ((0 ≡ (compact_step min_del max_age s p).writes) × (s ≡ (compact_step min_del max_age s p).lent))
unfolding compact_step
step_not min_del max_age p s b e h = let d : due s p min_del max_age ≡ false = sym e ∙ not-true b h in (rw d, (rw d, rw d))

pub step_is : (min_del max_age p reads writes : ℕ) (s s' : Lent) (b : Bool) → b ≡ due s p min_del max_age → not b ≡ false
    → (reads ≡ (compacted s p).reads) × ((writes ≡ (compacted s p).writes) × (s' ≡ (compacted s p).lent))
    → (reads ≡ (compact_step min_del max_age s p).reads) × ((writes ≡ (compact_step min_del max_age s p).writes) × (s' ≡ (compact_step min_del max_age s p).lent))
unfolding compact_step
step_is min_del max_age p reads writes s s' b e h k = let d : due s p min_del max_age ≡ true = sym e ∙ not-false b h in rw d k
