-- Compact keeps the shape of the lent tables, L, n and what is fixed.
use Prim.Native.Nat.{ℕ, ◌+◌, ◌*◌, ◌/◌, ◌≤◌, ◌<◌}
use native.Mathlib.Omega.{arith}
use mathlib.Core.Path.{◌≡◌, ap, ◌∙◌}
use mathlib.Core.Bool.{Bool, true, false, cond, not}
use mathlib.Core.List.{List, [], ◌∷◌}
use lib.ListN.{length, get_or, take, set, length-set}
use lib.Dec.{eqb, leb, ltb}
use borrow.Author.Tests.{le-leb}
use Rattle.word.specs.Word.{num}
use Rattle.word.proofs.Laws.{length_put}
use Rattle.word.proofs.Puts.{num_put_below}
use Rattle.record.specs.Part.{part}
use Rattle.record.specs.Rows.{rows, table, cons_if, keep}
use Rattle.record.specs.Record.{on_page, committed_on, gone, greatest, applied}
use Rattle.record.proofs.Parts.{length_part, length_with, part_set, one_fits}
use Rattle.record.proofs.Laws.{either_length}
use Rattle.record.proofs.Changes.{length_applied}
use Rattle.record.proofs.Rows.{keep_length, length_rows, wide_all, wide_keep, rows_table, length_kept_table}
use Rattle.order.specs.Order.{without}
use Rattle.order.proofs.Laws.{length_without}
use Rattle.rules.specs.Lent.{Lent, size_of, pages_of, frames_of, online_size_of, count_of, used_of, stamp_at, order_of, entry_at, entry_of, entries_of, online_of, in_frame, frame_of, clean_in, page_in, with_page, with_order, with_count}
use Rattle.rules.specs.Sound.{every}
use Rattle.rules.specs.Shape.{Shaped}
use Rattle.rules.specs.Steps.{due, foldable, from_frame, compacted_page, compacted_entry, compacted_order, unfolded, compacted, compact_step}
use Rattle.rules.proofs.Tables.{tables_keep_length, tables_count, tables_used, tables_order, tables_behind, entry_below}
use Rattle.rules.proofs.Every.{every_set, every_without}

-- what is fixed, L and n
-- an entry that compact writes names a frame, or none
clean_below : (b c : Bool) (e frames : ℕ) → 1 ≤ frames → e / 2 ≤ frames → cond b (clean_in (frame_of e)) (cond c 0 1) / 2 ≤ frames
clean_below true c e frames h k = omega arith
clean_below false true e frames h k = omega arith
clean_below false false e frames h k = omega arith

-- an order with a frame freed or none
order_length : (a b : Bool) (f : ℕ) (o : List ℕ) → length (cond a o (cond b (without f o) o)) ≤ length o
order_length true b f o = omega arith
order_length false true f o = length_without f o
order_length false false f o = omega arith

order_every : (g : ℕ → Bool) (a b : Bool) (f : ℕ) (o : List ℕ) → every g o ≡ true → every g (cond a o (cond b (without f o) o)) ≡ true
order_every g true b f o h = h
order_every g false true f o h = every_without g f o h
order_every g false false f o h = h

module _ (s : Lent) (p : ℕ) (w : Shaped s) (h : p < pages_of s) where
  page_length : length (compacted_page s p) ≡ size_of s
  unfolding compacted_page
  page_length =
      let z = w.sized in
      let f : frame_of (entry_of s p) < frames_of s = omega (arith, entry_below s p w h) in
      either_length (from_frame s p) (size_of s) (page_in (size_of s) (frame_of (entry_of s p)) s.lost.pool) (applied (foldable s p) (page_in (size_of s) p s.durable.stored))
      (length_part (frame_of (entry_of s p) * size_of s) (size_of s) s.lost.pool (one_fits (frame_of (entry_of s p)) (frames_of s) (size_of s) (length s.lost.pool) f z.pool))
      (length_applied (foldable s p) (page_in (size_of s) p s.durable.stored)
      ∙ length_part (p * size_of s) (size_of s) s.durable.stored (one_fits p (pages_of s) (size_of s) (length s.durable.stored) h z.stored))

  stored_length : length (with_page (size_of s) p s.durable.stored (compacted_page s p)) ≡ size_of s * pages_of s
  stored_length =
      let z = w.sized in
      length_with (p * size_of s) (size_of s) s.durable.stored (compacted_page s p) (one_fits p (pages_of s) (size_of s) (length s.durable.stored) h z.stored) page_length ∙ z.stored

  entry_fits : leb (compacted_entry s p / 2) (frames_of s) ≡ true
  unfolding compacted_entry
  entry_fits =
      let z = w.sized in
      le-leb (compacted_entry s p / 2) (frames_of s)
      (clean_below (from_frame s p) (eqb (length (foldable s p)) (length (keep (on_page p) (online_of s)))) (entry_of s p) (frames_of s) z.frames_least (entry_below s p w h))

  used_length : length (order_of s) ≡ used_of s
  used_length = let z = w.sized in length_part 35 (used_of s) s.lost.tables (omega (arith, w.used, z.tables))

  order_fewer : length (compacted_order s p) ≤ used_of s
  unfolding compacted_order
  order_fewer = omega (arith, order_length (from_frame s p) (in_frame (entry_of s p)) (frame_of (entry_of s p)) (order_of s), used_length)

  order_names : every (λ (f : ℕ). ltb f (frames_of s)) (compacted_order s p) ≡ true
  unfolding compacted_order
  order_names = order_every (λ (f : ℕ). ltb f (frames_of s)) (from_frame s p) (in_frame (entry_of s p)) (frame_of (entry_of s p)) (order_of s) w.order

  -- the tables before the order and the count are written
  entered : List ℕ
  entered = set s.lost.tables (entry_at (frames_of s) p) (compacted_entry s p)

  entered_length : length entered ≡ 35 + frames_of s + pages_of s
  unfolding entered
  entered_length = length-set s.lost.tables (entry_at (frames_of s) p) (compacted_entry s p) ∙ w.sized.tables

  entered_room : 35 + frames_of s ≤ length entered
  entered_room = omega (arith, entered_length)

  entered_entries : every (λ (e : ℕ). leb (e / 2) (frames_of s)) (part (35 + frames_of s) (pages_of s) entered) ≡ true
  unfolding entered
  entered_entries =
      rw (part_set (35 + frames_of s) (pages_of s) s.lost.tables p (compacted_entry s p) h)
      (every_set (λ (e : ℕ). leb (e / 2) (frames_of s)) (entries_of s) p (compacted_entry s p) w.entries entry_fits)

  left_count : length (unfolded s p) ≤ count_of s
  left_count = omega (arith, keep_length (λ (r : List ℕ). not (gone false 0 p r)) (online_of s), length_rows 19 (count_of s) s.lost.online 0)

  left_small : length (unfolded s p) < 65536
  left_small = omega (arith, left_count, w.count, w.sized.online_size)

  written : List ℕ
  written = with_count (length (unfolded s p)) (with_order (frames_of s) (compacted_order s p) entered)

  written_count : num 2 written 0 ≡ length (unfolded s p)
  unfolding written
  written_count = tables_count (frames_of s) (compacted_order s p) entered entered_room (length (unfolded s p)) left_small

  written_used : get_or written 2 0 ≡ length (compacted_order s p)
  unfolding written
  written_used = tables_used (frames_of s) (compacted_order s p) entered entered_room (length (unfolded s p))

  written_order : part 35 (get_or written 2 0) written ≡ compacted_order s p
  unfolding written
  written_order =
      ap (λ (n : ℕ). part 35 n written) written_used
      ∙ tables_order (frames_of s) (compacted_order s p) entered entered_room (length (unfolded s p)) (omega (arith, order_fewer, w.used))

  written_entries : part (35 + frames_of s) (pages_of s) written ≡ part (35 + frames_of s) (pages_of s) entered
  unfolding written
  written_entries = ap (λ (l : List ℕ). take (pages_of s) l) (tables_behind (frames_of s) (compacted_order s p) entered entered_room (length (unfolded s p)))

  online_length : length s.lost.online ≡ online_size_of s * 19
  online_length = omega (arith, w.sized.online)

  pub shaped_compact : Shaped (compacted s p).lent
  unfolding compacted written entered
  shaped_compact =
      let z = w.sized in
      record {
        sized =
            record {
              fixed = z.fixed;
              size_least = z.size_least;
              size = z.size;
              pages_least = z.pages_least;
              pages = z.pages;
              frames_least = z.frames_least;
              frames = z.frames;
              online_size = z.online_size;
              log_size = z.log_size;
              marks = length_put 4 s.durable.marks (stamp_at p) (greatest 0 (foldable s p)) ∙ z.marks;
              log = z.log;
              stored = stored_length;
              tables = tables_keep_length (frames_of s) (compacted_order s p) entered entered_room (length (unfolded s p)) ∙ entered_length;
              online = length_kept_table (λ (r : List ℕ). not (gone false 0 p r)) (count_of s) (online_size_of s) s.lost.online w.count online_length ∙ omega arith;
              pool = z.pool;
            };
        logged = rw (num_put_below 4 4 s.durable.marks (stamp_at p) (greatest 0 (foldable s p)) 8 (omega arith)) w.logged;
        count = omega (arith, written_count, left_count, w.count);
        used = omega (arith, written_used, order_fewer, w.used);
        entries = ap (λ (l : List ℕ). every (λ (e : ℕ). leb (e / 2) (frames_of s)) l) written_entries ∙ entered_entries;
        order = ap (λ (l : List ℕ). every (λ (f : ℕ). ltb f (frames_of s)) l) written_order ∙ order_names;
      }

  -- the rows left are those that are not folded in
  pub online_compact : online_of (compacted s p).lent ≡ unfolded s p
  unfolding compacted written entered
  online_compact =
      ap (λ (n : ℕ). rows 19 n (table 19 (online_size_of s) (unfolded s p)) 0) written_count
      ∙ rows_table (online_size_of s) (wide_keep (λ (r : List ℕ). not (gone false 0 p r)) (wide_all 19 (count_of s) s.lost.online (omega (arith, w.count, w.sized.online))))

-- of fewer rows no more pass a test
more_kept : (t : Bool) (r : List ℕ) (k l : List (List ℕ)) → length k ≤ length l → length (cons_if t r k) ≤ length (cons_if t r l)
more_kept true r k l h = omega arith
more_kept false r k l h = h

kept_more : (t : Bool) (r : List ℕ) (l : List (List ℕ)) → length l ≤ length (cons_if t r l)
kept_more true r l = omega arith
kept_more false r l = omega arith

kept_fewer : (b d : List ℕ → Bool) (l : List (List ℕ)) → length (keep d (keep b l)) ≤ length (keep d l)
unfolding keep
kept_fewer b d [] = omega arith
kept_fewer b d (r ∷ l) = pick (b r) (kept_fewer b d l)
  where
    pick : (t : Bool) → length (keep d (keep b l)) ≤ length (keep d l) → length (keep d (cons_if t r (keep b l))) ≤ length (cons_if (d r) r (keep d l))
    pick true h = more_kept (d r) r (keep d (keep b l)) (keep d l) h
    pick false h = omega (arith, kept_more (d r) r (keep d l))

-- and so as a step
module _ (min_del max_age : ℕ) (s : Lent) (p : ℕ) where
  pub shaped_step : Shaped s → p < pages_of s → Shaped (compact_step min_del max_age s p).lent
  unfolding compact_step
  shaped_step w h = go (due s p min_del max_age)
    where
      go : (b : Bool) → Shaped (cond b (compacted s p) (record { lent = s; reads = 0; writes = 0; logs = 0 })).lent
      go true = shaped_compact s p w h
      go false = w

  -- no page has more committed rows after a step
  pub foldable_step : Shaped s → p < pages_of s → (q : ℕ) → length (foldable (compact_step min_del max_age s p).lent q) ≤ length (foldable s q)
  unfolding compact_step
  foldable_step w h q = go (due s p min_del max_age)
    where
      go : (b : Bool) → length (foldable (cond b (compacted s p) (record { lent = s; reads = 0; writes = 0; logs = 0 })).lent q) ≤ length (foldable s q)
      go true = rw (online_compact s p w h) (kept_fewer (λ (r : List ℕ). not (gone false 0 p r)) (committed_on q) (online_of s))
      go false = omega arith
