-- What soundness says of the durable part, as bounds and lists; and back.
use Prim.Native.Nat.{ℕ, ◌+◌, ◌*◌, ◌≤◌, ◌<◌}
use mathlib.Core.Path.{◌≡◌}
use mathlib.Core.Logic.{◌⊎◌, inl, inr}
use mathlib.Core.Bool.{true, ◌||◌}
use lib.ListN.{length, drop}
use lib.Dec.{eqb, leb}
use borrow.Author.Tests.{eqb-true, eq-eqb, leb-true, le-leb}
use Rattle.word.proofs.Tests.{and_both, and_in}
use Rattle.record.specs.Record.{well_formed}
use Rattle.rules.specs.Lent.{Lent, params_of, size_of, pages_of, frames_of, online_size_of, log_size_of, last_of, closed_of, logged_of, first_number_of, stamp_of, dirty_of, log_of}
use Rattle.rules.specs.Shape.{Sized}
use Rattle.rules.specs.Sound.{every, up_to, zeros, between, in_range, exact_lengths, s1_parameters, s2_lengths, s3_logged, s16_logged, s18_first, s15_stamps, s17_s19_dirty, s7_log_records, s14_log_zero, sound_durable}
use Rattle.rules.proofs.Every.{or_either, or_left, or_right}
use Rattle.rules.proofs.Ranges.{durable_sized}
use Rattle.readback.proofs.Seen.{Areas}
use Rattle.keeps.proofs.Tests.{up_to_all, up_to_at}
use Rattle.keeps.proofs.Clauses.{DurableClauses, durable_clauses, clauses_durable}

pub record DurableHolds (s : Lent) : Type 0 where
  -- S1, S2
  pub fixed : length s.durable.fixed ≡ 20
  pub range : in_range (params_of s) ≡ true
  pub marks : length s.durable.marks ≡ 12 + 8 * pages_of s
  pub log : length s.durable.log ≡ 14 * log_size_of s
  pub stored : length s.durable.stored ≡ size_of s * pages_of s
  -- S3, S16, S18
  pub logged : logged_of s ≤ log_size_of s
  pub logged_last : logged_of s ≤ last_of s
  pub first : first_number_of s ≤ closed_of s + 1
  -- S15
  pub closed_last : closed_of s ≤ last_of s
  pub stamps : (p : ℕ) → p < pages_of s → stamp_of s p ≤ last_of s
  -- S17, S19
  pub dirty : (p : ℕ) → p < pages_of s → (dirty_of s p ≡ 0) ⊎ ((first_number_of s ≤ dirty_of s p) × (dirty_of s p ≤ closed_of s))
  -- S7, S14
  pub formed : every (well_formed (size_of s) (pages_of s)) (log_of s) ≡ true
  pub clear : zeros (drop (logged_of s * 14) s.durable.log) ≡ true

pub durable_holds : (s : Lent) → sound_durable s ≡ true → DurableHolds s
unfolding s1_parameters s3_logged s16_logged s18_first s15_stamps s17_s19_dirty s7_log_records s14_log_zero
durable_holds s h =
    let c : DurableClauses s = durable_clauses s h in
    let z : Sized s = durable_sized s h in
    let k = and_both (leb (closed_of s) (last_of s)) (up_to (λ (p : ℕ). leb (stamp_of s p) (last_of s)) (pages_of s) 0) c.s15 in
    record {
      fixed = z.fixed;
      range = (and_both (eqb (length s.durable.fixed) 20) (in_range (params_of s)) c.s1).1;
      marks = z.marks;
      log = z.log;
      stored = z.stored;
      logged = leb-true (logged_of s) (log_size_of s) c.s3;
      logged_last = leb-true (logged_of s) (last_of s) c.s16;
      first = leb-true (first_number_of s) (closed_of s + 1) c.s18;
      closed_last = leb-true (closed_of s) (last_of s) k.0;
      stamps = λ p m. leb-true (stamp_of s p) (last_of s) (up_to_at (λ (q : ℕ). leb (stamp_of s q) (last_of s)) (pages_of s) p k.1 m);
      dirty = λ p m. pick p (or_either (eqb (dirty_of s p) 0) (between (first_number_of s) (dirty_of s p) (closed_of s)) (up_to_at (λ (q : ℕ). eqb (dirty_of s q) 0 || between (first_number_of s) (dirty_of s q) (closed_of s)) (pages_of s) p c.s17 m));
      formed = c.s7;
      clear = c.s14;
    }
  where
    pick : (p : ℕ) → (eqb (dirty_of s p) 0 ≡ true) ⊎ (between (first_number_of s) (dirty_of s p) (closed_of s) ≡ true) → (dirty_of s p ≡ 0) ⊎ ((first_number_of s ≤ dirty_of s p) × (dirty_of s p ≤ closed_of s))
    pick p (inl e) = inl (eqb-true (dirty_of s p) 0 e)
    pick p (inr e) =
        let b = and_both (leb (first_number_of s) (dirty_of s p)) (leb (dirty_of s p) (closed_of s)) e in
        inr (leb-true (first_number_of s) (dirty_of s p) b.0, leb-true (dirty_of s p) (closed_of s) b.1)

pub holds_durable : (s : Lent) → DurableHolds s → Areas s → sound_durable s ≡ true
unfolding s1_parameters s2_lengths exact_lengths s3_logged s16_logged s18_first s15_stamps s17_s19_dirty s7_log_records s14_log_zero
holds_durable s d a =
    clauses_durable s
    (record {
      s1 = and_in (eqb (length s.durable.fixed) 20) (in_range (params_of s)) (eq-eqb (length s.durable.fixed) 20 d.fixed) d.range;
      s2 =
          rw (
            eq-eqb (length s.durable.marks) (12 + 8 * pages_of s) d.marks,
            eq-eqb (length s.durable.log) (14 * log_size_of s) d.log,
            eq-eqb (length s.durable.stored) (size_of s * pages_of s) d.stored,
            eq-eqb (length s.lost.tables) (35 + frames_of s + pages_of s) a.tables,
            eq-eqb (length s.lost.online) (19 * online_size_of s) a.online,
            eq-eqb (length s.lost.pool) (size_of s * frames_of s) a.pool,
          );
      s3 = le-leb (logged_of s) (log_size_of s) d.logged;
      s16 = le-leb (logged_of s) (last_of s) d.logged_last;
      s18 = le-leb (first_number_of s) (closed_of s + 1) d.first;
      s15 =
          and_in (leb (closed_of s) (last_of s)) (up_to (λ (p : ℕ). leb (stamp_of s p) (last_of s)) (pages_of s) 0)
          (le-leb (closed_of s) (last_of s) d.closed_last)
          (up_to_all (λ (p : ℕ). leb (stamp_of s p) (last_of s)) (pages_of s) (λ p m. le-leb (stamp_of s p) (last_of s) (d.stamps p m)));
      s17 = up_to_all (λ (p : ℕ). eqb (dirty_of s p) 0 || between (first_number_of s) (dirty_of s p) (closed_of s)) (pages_of s) (λ p m. pick p (d.dirty p m));
      s7 = d.formed;
      s14 = d.clear;
    })
  where
    pick : (p : ℕ) → (dirty_of s p ≡ 0) ⊎ ((first_number_of s ≤ dirty_of s p) × (dirty_of s p ≤ closed_of s)) → (eqb (dirty_of s p) 0 || between (first_number_of s) (dirty_of s p) (closed_of s)) ≡ true
    pick p (inl e) = or_left (eqb (dirty_of s p) 0) (between (first_number_of s) (dirty_of s p) (closed_of s)) (eq-eqb (dirty_of s p) 0 e)
    pick p (inr e) =
        or_right (eqb (dirty_of s p) 0) (between (first_number_of s) (dirty_of s p) (closed_of s))
        (and_in (leb (first_number_of s) (dirty_of s p)) (leb (dirty_of s p) (closed_of s)) (le-leb (first_number_of s) (dirty_of s p) e.0) (le-leb (dirty_of s p) (closed_of s) e.1))
