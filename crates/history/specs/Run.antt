-- How a store comes by its bytes: an accepted format, then calls with any arguments, accepted or refused, and power losses. docs/RULES.md 9 and 10.
use Rattle.std.specs.Prelude.{ℕ, ◌+◌, ◌≤◌, ◌≡◌, false, cond, List, length, leb, Ok}
use Rattle.record.specs.Record.{row_of}
use Rattle.rules.specs.declared.Params.{Params}
use Rattle.rules.specs.declared.Refusal.{Refusal}
use Rattle.rules.specs.declared.Answer.{Answer}
use Rattle.rules.specs.declared.Answer.TheVariants.{Done, NotDue, Refused}
use Rattle.rules.specs.Lent.{Lent, Lost, pages_of}
use Rattle.rules.specs.Steps.{after_pages, checkpointed}
use Rattle.rules.specs.Calls.{Outcome, begin_call, read_call, update_call, commit_call, abort_call, evict_call, compact_call, close_call, checkpoint_call, restart_call, format_call, judge_checkpoint}
use Rattle.history.specs.Past.{Past, fresh, begins, updates, commits, aborts, falls, rises}

-- the calls but format, with any arguments; a read with the caller's buffer
pub data Call : Type 0 where
  Begin Commit Abort Evict : ℕ → Call
  Read : List ℕ → ℕ → ℕ → ℕ → ℕ → Call
  Update : ℕ → ℕ → ℕ → ℕ → ℕ → ℕ → Call
  Compact : ℕ → ℕ → ℕ → Call
  Checkpoint : ℕ → ℕ → Call
  Close Restart : Call

-- what the promise of the call says (crate ventarico: every promise is `Told` of one of these)
unfoldable pub outcome : Lent → Call → Outcome
outcome s (Begin x) = begin_call s x
outcome s (Commit x) = commit_call s x
outcome s (Abort x) = abort_call s x
outcome s (Evict p) = evict_call s p
outcome s (Read buffer x p offset w) = read_call s buffer x p offset w
outcome s (Update x p offset w kind v) = update_call s x p offset w kind v
outcome s (Compact p min_del max_age) = compact_call s p min_del max_age
outcome s (Checkpoint min_del max_age) = checkpoint_call s min_del max_age
outcome s Close = close_call s
outcome s Restart = restart_call s

-- what an accepted call adds to the history
unfoldable pub taken : Past → Call → Past
taken h (Begin x) = begins h x
taken h (Commit x) = commits h x
taken h (Abort x) = aborts h x
taken h (Evict p) = h
taken h (Read buffer x p offset w) = h
taken h (Update x p offset w kind v) = updates h (row_of p offset w kind v x)
taken h (Compact p min_del max_age) = h
taken h (Checkpoint min_del max_age) = h
taken h Close = h
taken h Restart = rises h

-- a refused call adds nothing
unfoldable pub told : Past → Call → Answer → Past
told h c (Done counts) = taken h c
told h c NotDue = h
told h c (Refused r) = h

-- "After it the lost part holds any bytes at all": the areas are lent again, so they have their lengths
pub record Fits (s : Lent) (l : Lost) : Type 0 where
  pub tables : length l.tables ≡ length s.lost.tables
  pub online : length l.online ≡ length s.lost.online
  pub pool : length l.pool ≡ length s.lost.pool

abbrev pub after_loss : Lent → Lost → Lent
after_loss s l = record { durable = s.durable; lost = l }

-- a checkpoint's bytes after the first j of its steps: a compaction for each page, then the closing
unfoldable pub after_steps : ℕ → ℕ → ℕ → Lent → Lent
after_steps min_del max_age j s = cond (leb j (pages_of s)) (after_pages min_del max_age j s).lent (checkpointed min_del max_age s).lent

-- the history and the bytes that an honest use can come to
pub data Run : Past → Lent → Type 0 where
  -- any bytes at all, an accepted format
  format : (s : Lent) (g : Params) (last : ℕ) → (format_call s g last).answer ≡ Done (record { reads = 0; writes = 0; logs = 0 }) → Run (fresh g last s.durable.stored) (format_call s g last).lent
  -- a format that is refused
  no_format : {h : Past} {s : Lent} → Run h s → (g : Params) (last : ℕ) (r : Refusal) → (format_call s g last).answer ≡ Refused r → Run h (format_call s g last).lent
  -- any other call, while no restart is awaited
  call : {h : Past} {s : Lent} → Run h s → h.down ≡ false → (c : Call) → Run (told h c (outcome s c).answer) (outcome s c).lent
  -- a restart, at any time
  restart : {h : Past} {s : Lent} → Run h s → Run (told h Restart (restart_call s).answer) (restart_call s).lent
  -- a power loss between calls, and inside a checkpoint
  loss : {h : Past} {s : Lent} → Run h s → (l : Lost) → Fits s l → Run (falls h) (after_loss s l)
  loss_inside : {h : Past} {s : Lent} → Run h s → h.down ≡ false → (min_del max_age j : ℕ) → judge_checkpoint s min_del max_age ≡ Ok tt → j ≤ pages_of s + 1 → (l : Lost) → Fits s l → Run (falls h) (after_loss (after_steps min_del max_age j s) l)
