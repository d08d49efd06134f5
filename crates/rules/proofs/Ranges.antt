-- What soundness says as numbers: the ranges of the parameters, the lengths of the areas, and what a sound durable part gives.
use Prim.Native.Nat.{ℕ, ◌+◌, ◌*◌, ◌≤◌}
use native.Mathlib.Omega.{arith}
use mathlib.Core.Path.{◌≡◌}
use mathlib.Core.Bool.{Bool, true, false, not}
use lib.ListN.{length}
use lib.Dec.{eqb, leb}
use borrow.Author.Tests.{eqb-true, leb-true}
use Rattle.word.proofs.Tests.{and_both, and_five, and_six, and_nine, among_four, so}
use Rattle.record.specs.Record.{well_formed}
use Rattle.rules.specs.declared.Params.{Params}
use Rattle.rules.specs.Lent.{Lent, params_of, size_of, pages_of, log_size_of, last_of, logged_of, log_of}
use Rattle.rules.specs.Sound.{every, between, is_page_size, in_range, exact_lengths, s1_parameters, s2_lengths, s3_logged, s16_logged, s18_first, s15_stamps, s17_s19_dirty, s7_log_records, s14_log_zero, sound_durable}
use Rattle.rules.specs.Shape.{Ranged, Sized}

-- the ranges as bounds
between_bounds : (low n high : ℕ) → between low n high ≡ true → (low ≤ n) × (n ≤ high)
between_bounds low n high h =
    let e = and_both (leb low n) (leb n high) h in
    (leb-true low n e.0, leb-true n high e.1)

pub ranged : (g : Params) → in_range g ≡ true → Ranged g
unfolding in_range is_page_size
ranged g h =
    let e = and_five (is_page_size g.size) (between 1 g.pages 1024) (between 1 g.frames 64) (between 1 g.online 512) (between 1 g.log 2048) h in
    let s = among_four (λ (n : ℕ). (512 ≤ n) × (n ≤ 4096)) g.size 512 1024 2048 4096 e.0 (omega arith, omega arith) (omega arith, omega arith) (omega arith, omega arith) (omega arith, omega arith) in
    let p = between_bounds 1 g.pages 1024 e.1 in
    let f = between_bounds 1 g.frames 64 e.2 in
    let o = between_bounds 1 g.online 512 e.3 in
    let l = between_bounds 1 g.log 2048 e.4 in
    record {
      size_least = s.0;
      size_most = s.1;
      pages_least = p.0;
      pages_most = p.1;
      frames_least = f.0;
      frames_most = f.1;
      online_least = o.0;
      online_most = o.1;
      log_least = l.0;
      log_most = l.1;
    }

-- the six lengths of the areas
pub lengths_each : (s : Lent) (g : Params) → exact_lengths s g ≡ true → (length s.durable.marks ≡ 12 + 8 * g.pages) × (length s.durable.log ≡ 14 * g.log) × (length s.durable.stored ≡ g.size * g.pages) × (length s.lost.tables ≡ 35 + g.frames + g.pages) × (length s.lost.online ≡ 19 * g.online) × (length s.lost.pool ≡ g.size * g.frames)
unfolding exact_lengths
lengths_each s g h =
    let e =
    and_six (eqb (length s.durable.marks) (12 + 8 * g.pages)) (eqb (length s.durable.log) (14 * g.log)) (eqb (length s.durable.stored) (g.size * g.pages))
    (eqb (length s.lost.tables) (35 + g.frames + g.pages)) (eqb (length s.lost.online) (19 * g.online)) (eqb (length s.lost.pool) (g.size * g.frames)) h
    in (
      eqb-true (length s.durable.marks) (12 + 8 * g.pages) e.0,
      eqb-true (length s.durable.log) (14 * g.log) e.1,
      eqb-true (length s.durable.stored) (g.size * g.pages) e.2,
      eqb-true (length s.lost.tables) (35 + g.frames + g.pages) e.3,
      eqb-true (length s.lost.online) (19 * g.online) e.4,
      eqb-true (length s.lost.pool) (g.size * g.frames) e.5,
    )

-- the two of the durable part's tables
pub lengths_marks : (s : Lent) (g : Params) {r : Bool} → r ≡ exact_lengths s g → not r ≡ false → (length s.durable.marks ≡ 12 + 8 * g.pages) × (length s.durable.log ≡ 14 * g.log)
lengths_marks s g f h =
    let e = lengths_each s g (so _ _ f h) in
    (e.0, e.1)

-- what a sound durable part gives
durable_clauses : (s : Lent) → sound_durable s ≡ true → (s1_parameters s ≡ true) × (s2_lengths s ≡ true) × (s3_logged s ≡ true) × (s16_logged s ≡ true) × (s18_first s ≡ true) × (s15_stamps s ≡ true) × (s17_s19_dirty s ≡ true) × (s7_log_records s ≡ true) × (s14_log_zero s ≡ true)
unfolding sound_durable
durable_clauses s h = and_nine (s1_parameters s) (s2_lengths s) (s3_logged s) (s16_logged s) (s18_first s) (s15_stamps s) (s17_s19_dirty s) (s7_log_records s) (s14_log_zero s) h

pub durable_sized : (s : Lent) → sound_durable s ≡ true → Sized s
unfolding s1_parameters s2_lengths
durable_sized s h =
    let e = durable_clauses s h in
    let p = and_both (eqb (length s.durable.fixed) 20) (in_range (params_of s)) e.0 in
    let r = ranged (params_of s) p.1 in
    let l = lengths_each s (params_of s) e.1 in
    record {
      fixed = eqb-true (length s.durable.fixed) 20 p.0;
      size_least = r.size_least;
      size = r.size_most;
      pages_least = r.pages_least;
      pages = r.pages_most;
      frames_least = r.frames_least;
      frames = r.frames_most;
      online_size = r.online_most;
      log_size = r.log_most;
      marks = l.0;
      log = l.1;
      stored = l.2;
      tables = l.3;
      online = l.4;
      pool = l.5;
    }

pub durable_logged : (s : Lent) → sound_durable s ≡ true → (logged_of s ≤ log_size_of s) × (logged_of s ≤ last_of s)
unfolding s3_logged s16_logged
durable_logged s h =
    let e = durable_clauses s h in
    (leb-true (logged_of s) (log_size_of s) e.2, leb-true (logged_of s) (last_of s) e.3)

pub durable_log_records : (s : Lent) → sound_durable s ≡ true → every (well_formed (size_of s) (pages_of s)) (log_of s) ≡ true
unfolding s7_log_records
durable_log_records s h = (durable_clauses s h).7
