-- Each call on any sound tables, accepted or refused, leaves sound tables. `update_keeps` and `judged_alone` are what a call of many updates cites:
-- the tables are checked once, each update is judged by its list alone, and what it leaves is sound again.
use Rattle.std.specs.Prelude.{Ok, Err}
use Prim.Native.Nat.{ℕ, ◌≤◌}
use mathlib.Core.Path.{◌≡◌, refl, ap}
use mathlib.Core.Bool.{Bool, true, false, not}
use mathlib.Core.List.{List, []}
use lib.ListN.{length}
use Rattle.record.specs.Record.{row_of}
use Rattle.rules.specs.declared.Refusal.TheVariants.{NotSound}
use Rattle.rules.specs.Calls.{Verdict}
use Rattle.rules.specs.Lent.{Lent, size_of, pages_of, online_size_of, last_of, count_of, online_of}
use Rattle.rules.specs.Sound.{sound}
use Rattle.rules.specs.Steps.{begun, read_step, read_bytes, updated, committing, aborted, evicted, due, compacted, closed, checkpointed}
use Rattle.rules.specs.Calls.{Outcome, settled, done_with, due_or, refuse_if, verdict_of, is_live, update_refusals, judge_begin, begin_call, judge_read, read_call, judge_update, update_call, judge_commit, commit_call, judge_abort, abort_call, judge_evict, evict_call, judge_compact, compact_call, judge_close, close_call, judge_checkpoint, checkpoint_call}
use Rattle.rules.proofs.Verdicts.{number_least, number_most}
use Rattle.rules.proofs.Went.{begin_went, abort_went, evict_went, commit_went, read_went, update_went, update_whose, compact_went}
use Rattle.keeps.proofs.Fetching.{sound_read, sound_update}
use Rattle.keeps.proofs.Begins.{sound_begin, sound_evict, sound_abort}
use Rattle.keeps.proofs.Commits.{sound_commit}
use Rattle.keeps.proofs.Compacts.{sound_compact}
use Rattle.keeps.proofs.Closes.{sound_close, sound_checkpoint}

-- an accepted update
pub update_keeps : (s : Lent) (x p offset w kind v : ℕ) → judge_update s x p offset w kind v ≡ Ok tt → sound (updated s (row_of p offset w kind v x)).lent ≡ true
update_keeps s x p offset w kind v e =
    let a = update_went s x p offset w kind v e in
    let b = update_whose s x p offset w kind v e in
    sound_update s x p offset w kind v a.0 a.1 a.5 b.0 a.2 b.1 a.6 b.2 b.3 a.4

-- on tables that are known to be sound an update is judged by its list alone
pub judged_alone : (s : Lent) (x p offset w kind v : ℕ) → sound s ≡ true → judge_update s x p offset w kind v ≡ verdict_of (update_refusals (size_of s) (pages_of s) (online_size_of s) (count_of s) (is_live s.lost.tables) (online_of s) x p offset w kind v)
unfolding judge_update verdict_of refuse_if
judged_alone s x p offset w kind v e =
    ap (λ (b : Bool). refuse_if (not b) NotSound (verdict_of (update_refusals (size_of s) (pages_of s) (online_size_of s) (count_of s) (is_live s.lost.tables) (online_of s) x p offset w kind v))) e

-- a call that is settled: refused, nothing changes; else its step
by_verdict : (s : Lent) (buffer : List ℕ) (o : Outcome) (v : Verdict) → sound s ≡ true → (v ≡ Ok tt → sound o.lent ≡ true) → sound (settled v s buffer o).lent ≡ true
by_verdict s buffer o (Ok tt) e f = f refl
by_verdict s buffer o (Err r) e f = e

module _ (s : Lent) (e : sound s ≡ true) where
  pub keeps_begin : (x : ℕ) → sound (begin_call s x).lent ≡ true
  unfolding begin_call
  keeps_begin x = by_verdict s [] (done_with (begun s x) []) (judge_begin s x) e (λ k. (let a = begin_went s x k in sound_begin s x e (number_least x a.1) (number_most x a.1)))

  pub keeps_read : (buffer : List ℕ) (x p offset w : ℕ) → sound (read_call s buffer x p offset w).lent ≡ true
  unfolding read_call
  keeps_read buffer x p offset w =
      by_verdict s buffer (done_with (read_step s p) (read_bytes s p offset w buffer)) (judge_read s (length buffer) x p offset w) e (λ k. sound_read s e p (read_went s (length buffer) x p offset w k).1)

  pub keeps_update : (x p offset w kind v : ℕ) → sound (update_call s x p offset w kind v).lent ≡ true
  unfolding update_call
  keeps_update x p offset w kind v = by_verdict s [] (done_with (updated s (row_of p offset w kind v x)) []) (judge_update s x p offset w kind v) e (update_keeps s x p offset w kind v)

  pub keeps_commit : (x : ℕ) → sound (commit_call s x).lent ≡ true
  unfolding commit_call
  keeps_commit x =
      by_verdict s [] (done_with (committing s x) []) (judge_commit s x) e
      (λ k. (let a = commit_went s x k in sound_commit s x e (number_least x a.1) (number_most x a.1) a.2 a.3))

  pub keeps_abort : (x : ℕ) → sound (abort_call s x).lent ≡ true
  unfolding abort_call
  keeps_abort x = by_verdict s [] (done_with (aborted s x) []) (judge_abort s x) e (λ k. (let a = abort_went s x k in sound_abort s x e (number_least x a.1) (number_most x a.1)))

  pub keeps_evict : (p : ℕ) → sound (evict_call s p).lent ≡ true
  unfolding evict_call
  keeps_evict p = by_verdict s [] (done_with (evicted s p) []) (judge_evict s p) e (λ k. (let a = evict_went s p k in sound_evict s p e a.1 a.2))

  -- these write L, or a number up to it, in 4 bytes: in C it has no more
  module _ (last : last_of s ≤ 4294967295) where
    pub keeps_compact : (p min_del max_age : ℕ) → sound (compact_call s p min_del max_age).lent ≡ true
    unfolding compact_call
    keeps_compact p min_del max_age =
        by_verdict s [] (due_or (due s p min_del max_age) s (done_with (compacted s p) [])) (judge_compact s p min_del max_age) e (λ k. if_due (due s p min_del max_age) (sound_compact s p e (compact_went s p min_del max_age k).1 last))
      where
        if_due : (b : Bool) → sound (compacted s p).lent ≡ true → sound (due_or b s (done_with (compacted s p) [])).lent ≡ true
        if_due true h = h
        if_due false h = e

    pub keeps_close : sound (close_call s).lent ≡ true
    unfolding close_call
    keeps_close = by_verdict s [] (done_with (closed s) []) (judge_close s) e (λ k. sound_close s e last)

    pub keeps_checkpoint : (min_del max_age : ℕ) → sound (checkpoint_call s min_del max_age).lent ≡ true
    unfolding checkpoint_call
    keeps_checkpoint min_del max_age = by_verdict s [] (done_with (checkpointed min_del max_age s) []) (judge_checkpoint s min_del max_age) e (λ k. sound_checkpoint s min_del max_age e last)
