-- A format is right from the start: nothing is committed, nobody is live, no page is in a frame, and the stored pages are the starting pages.
-- So every history begins with bytes that are right for it.
use Prim.Native.Nat.{ℕ, ◌+◌, ◌*◌, ◌-◌, ◌≤◌}
use native.Mathlib.Omega.{arith}
use mathlib.Core.Path.{◌≡◌, refl, sym, ap, ◌∙◌}
use mathlib.Core.Logic.{inl}
use mathlib.Core.Bool.{true, false, false≢true}
use mathlib.Core.List.{List, []}
use lib.ListN.{length, replicate, length-replicate, drop_of_length-le}
use lib.Dec.{eqb}
use Rattle.record.specs.Rows.{keep, any}
use Rattle.record.specs.Record.{applied}
use Rattle.order.proofs.Laws.{blank_at}
use Rattle.rules.specs.declared.Params.{Params}
use Rattle.rules.specs.Lent.{Lent, frames_of, last_of, closed_of, logged_of, in_frame, is_dirty}
use Rattle.rules.specs.Sound.{every, in_range, exact_lengths}
use Rattle.rules.specs.Steps.{formatted}
use Rattle.rules.proofs.Ranges.{lengths_each}
use Rattle.redo.proofs.Loose.{still, numbered_from}
use Rattle.seats.proofs.Places.{seated_none}
use Rattle.readback.proofs.Marks.{fixed_format, size_format, pages_format, frames_format, online_size_format, log_size_format, range_format, marks_format, last_format, closed_format, logged_format, stamp_format, dirty_format}
use Rattle.readback.proofs.Log.{log_format, log_zero_format, log_length_format}
use Rattle.readback.proofs.Lost.{reads_formatted}
use Rattle.history.specs.Past.{fresh}
use Rattle.history.proofs.Right.{Ground, DurableRight, LostRight, Right}
use Rattle.history.proofs.Settle.{settle}
use Rattle.history.proofs.Pasts.{past_fresh}

-- the lengths that format asks of the lent areas
record Lengths (s : Lent) (g : Params) : Type 0 where
  marks : length s.durable.marks ≡ 12 + 8 * g.pages
  log : length s.durable.log ≡ 14 * g.log
  stored : length s.durable.stored ≡ g.size * g.pages
  tables : length s.lost.tables ≡ 35 + g.frames + g.pages
  online : length s.lost.online ≡ 19 * g.online
  pool : length s.lost.pool ≡ g.size * g.frames

lengths_of : (s : Lent) (g : Params) → exact_lengths s g ≡ true → Lengths s g
lengths_of s g e =
    let l = lengths_each s g e in
    record { marks = l.0; log = l.1; stored = l.2; tables = l.3; online = l.4; pool = l.5 }

-- zero bytes: no number is live, and every page is absent
lost_new : (size pages last frames : ℕ) (start marks stored pool : List ℕ)
    → LostRight (record { size = size; pages = pages; start = start; base = last }) [] [] (λ (x : ℕ). false) frames marks stored pool [] (replicate 32 0) (replicate pages 0) []
unfolding every any keep numbered_from
lost_new size pages last frames start marks stored pool =
    record {
      seated = seated_none frames pages;
      entries_length = length-replicate {A = ℕ} pages 0;
      lives_length = length-replicate {A = ℕ} 32 0;
      lives_bits = refl;
      alive = λ x low high. ap (λ (b : ℕ). eqb b 1) (blank_at {A = ℕ} 32 (x - 1) 0);
      dirty = λ p below. ap (λ (e : ℕ). is_dirty e) (blank_at {A = ℕ} pages p 0);
      online_is = still;
      frame = λ p below inside. absurd (false≢true (sym (ap (λ (e : ℕ). in_frame e) (blank_at {A = ℕ} pages p 0)) ∙ inside));
    }

module _ (s : Lent) (g : Params) (last : ℕ) (m : last ≤ 4294967295) (ranged : in_range g ≡ true) (exact : exact_lengths s g ≡ true) where
  abbrev ground : Ground
  ground = record { size = g.size; pages = g.pages; start = s.durable.stored; base = last }

  abbrev new : Lent
  new = (formatted s g last).lent

  long : Lengths s g
  long = lengths_of s g exact

  -- every stamp is L, no dirty number is there, and the log is empty
  durable_new : DurableRight ground [] new.durable
  unfolding formatted every keep applied numbered_from
  durable_new =
      let l : last_of new ≡ last = last_format s g last ranged long.marks m in
      let k : closed_of new ≡ last = closed_format s g last ranged long.marks m in
      let n : logged_of new ≡ 0 = logged_format s g last ranged long.marks m in
      record {
        fixed = fixed_format s g last ranged;
        range = range_format s g last ranged;
        size = size_format s g last ranged;
        pages = pages_format s g last ranged;
        marks = marks_format s g last ranged long.marks m ∙ long.marks;
        log = log_length_format s g last ranged long.marks m ∙ long.log ∙ ap (λ (i : ℕ). 14 * i) (sym (log_size_format s g last ranged));
        stored = long.stored;
        last = omega (arith, l);
        bound = omega (arith, l, m);
        logged = omega (arith, n);
        logged_done = omega (arith, n);
        log_read = log_format s g last ranged long.marks m ∙ sym (drop_of_length-le {A = List ℕ} [] {i = 0 - logged_of new} (omega arith));
        log_zero = log_zero_format s g last ranged long.marks m;
        stamps = λ p below. omega (arith, l, stamp_format s g last ranged long.marks m p below);
        closed = omega (arith, l, k);
        dirty = λ p below. inl (dirty_format s g last ranged long.marks m p);
        first = omega (arith, l, k, n);
        needed = refl;
        entered = refl;
        fits = omega arith;
        page = λ p below. refl;
      }

  -- format, its parameters in range and the lent lengths exact, leaves bytes that are right for a new history
  pub format_right : Right (record { size = g.size; pages = g.pages; start = s.durable.stored; base = last }) [] (fresh g last s.durable.stored) (formatted s g last).lent
  unfolding formatted fresh keep
  format_right =
      settle
      (reads_formatted s g last long.tables long.online long.pool (size_format s g last ranged) (pages_format s g last ranged) (frames_format s g last ranged) (online_size_format s g last ranged))
      (past_fresh g last s.durable.stored m)
      durable_new
      (lost_new g.size g.pages last (frames_of new) s.durable.stored new.durable.marks s.durable.stored s.lost.pool)
