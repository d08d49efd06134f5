-- The calls: the refusals in 01's order, and what is left. A refusal leaves every lent byte. docs/RULES.md 8.
use Rattle.std.specs.Prelude.{ℕ, ◌+◌, ◌^◌, Bool, true, false, not, ◌&&◌, List, [], ◌∷◌, length, get_or, eqb, leb, ltb, Ok, Err, Result}
use Rattle.record.specs.Rows.{any}
use Rattle.record.specs.Record.{owner_of, committed, is_length, row_of, overlaps}
use Rattle.rules.specs.declared.Params.{Params}
use Rattle.rules.specs.declared.Bad.TheVariants.{Page, Number, Length, Place, Value, Kind, Parameter, Lent as LentLength}
use Rattle.rules.specs.declared.Refusal.{Refusal}
use Rattle.rules.specs.declared.Refusal.TheVariants.{NotSound, Argument, ShortBuffer, NotLive, Live, Held, OnlineFull, LogFull, NumbersEnd, NoFrame}
use Rattle.rules.specs.declared.Answer.{Answer}
use Rattle.rules.specs.declared.Answer.TheVariants.{Done, NotDue, Refused}
use Rattle.rules.specs.Lent.{fixed_length, Lent, size_of, pages_of, online_size_of, log_size_of, last_of, logged_of, count_of, live_at, entry_of, online_of, in_frame}
use Rattle.rules.specs.Sound.{sound, sound_durable, between, in_range, exact_lengths, apart}
use Rattle.rules.specs.Steps.{Left, begun, read_step, read_bytes, updated, owned, committing, aborted, evicted, due, compacted, closed, checkpointed, entering_all, restarted, formatted}

-- the answer, the lent bytes and read's buffer afterwards
pub record Outcome : Type 0 where
  pub answer : Answer
  pub lent : Lent
  pub buffer : List ℕ

-- what judging says: the call may go on, or is refused
abbrev pub Verdict : Type 0
Verdict = Result (Unit {0}) Refusal

-- a refusal, and the test that gives it
pub record Test : Type 0 where
  pub gives : Refusal
  pub holds : Bool

infix 90 ◌when◌
abbrev pub ◌when◌ : Refusal → Bool → Test
r when b = record { gives = r; holds = b }

-- a refusal if the test holds, else what follows
unfoldable pub refuse_if : Bool → Refusal → Verdict → Verdict
refuse_if true r v = Err r
refuse_if false r v = v

-- "Checked in the order listed": the first test that holds refuses
unfoldable pub verdict_of : List Test → Verdict
verdict_of [] = Ok tt
verdict_of (t ∷ ts) = refuse_if t.holds t.gives (verdict_of ts)

-- "Checked first by every call except format"
abbrev pub unsound : Lent → Test
unsound s = NotSound when not (sound s)

abbrev pub done_with : Left → List ℕ → Outcome
done_with d buffer = record { answer = Done (record { reads = d.reads; writes = d.writes; logs = d.logs }); lent = d.lent; buffer = buffer }

-- "A refusal gives its number and zero counts, and every lent byte keeps its value."
abbrev pub settled : Verdict → Lent → List ℕ → Outcome → Outcome
settled (Ok tt) s buffer o = o
settled (Err r) s buffer o = record { answer = Refused r; lent = s; buffer = buffer }

-- "transaction number | 1 to 32"
abbrev pub is_number : ℕ → Bool
is_number x = between 1 x 32

-- x is live in the tables
abbrev pub is_live : List ℕ → ℕ → Bool
is_live tables x = eqb (get_or tables (live_at x) 0) 1

-- refusals 7 and 8: no room for k more where n of so many places are taken, "n + k above the log's size"
abbrev pub no_room : ℕ → ℕ → ℕ → Bool
no_room size n k = ltb size (n + k)

-- begin
unfoldable pub begin_refusals : (ℕ → Bool) → ℕ → List Test
begin_refusals live x = Argument Number when not (is_number x) ∷ Live when live x ∷ []

unfoldable pub judge_begin : Lent → ℕ → Verdict
judge_begin s x = verdict_of (unsound s ∷ begin_refusals (is_live s.lost.tables) x)

unfoldable pub begin_call : Lent → ℕ → Outcome
begin_call s x = settled (judge_begin s x) s [] (done_with (begun s x) [])

-- refusal 6, of a read: a row of another live owner has a byte of those asked for. Rows of live owners are the uncommitted ones (S8)
unfoldable pub clashes : ℕ → ℕ → ℕ → ℕ → List ℕ → Bool
clashes x p offset w r = not (committed r) && not (eqb (owner_of r) x) && overlaps p offset w r

abbrev pub held_to_read : List (List ℕ) → ℕ → ℕ → ℕ → ℕ → Bool
held_to_read online x p offset w = any (clashes x p offset w) online

-- and of an update: the row that it would append is not apart from one that is there (S13)
abbrev pub held_to_update : List (List ℕ) → List ℕ → Bool
held_to_update online r = any (λ (a : List ℕ). not (apart a r)) online

-- read: "transaction, page, offset, length 1 to page size"; n is the buffer's length
unfoldable pub read_refusals : ℕ → ℕ → (ℕ → Bool) → List (List ℕ) → ℕ → ℕ → ℕ → ℕ → ℕ → List Test
read_refusals size pages live online n x p offset w =
    Argument Page when not (ltb p pages)
    ∷ Argument Number when not (is_number x)
    ∷ Argument Length when not (between 1 w size)
    ∷ Argument Place when not (leb (offset + w) size)
    ∷ ShortBuffer when ltb n w
    ∷ NotLive when not (live x)
    ∷ Held when held_to_read online x p offset w
    ∷ []

unfoldable pub judge_read : Lent → ℕ → ℕ → ℕ → ℕ → ℕ → Verdict
judge_read s n x p offset w = verdict_of (unsound s ∷ read_refusals (size_of s) (pages_of s) (is_live s.lost.tables) (online_of s) n x p offset w)

unfoldable pub read_call : Lent → List ℕ → ℕ → ℕ → ℕ → ℕ → Outcome
read_call s buffer x p offset w = settled (judge_read s (length buffer) x p offset w) s buffer (done_with (read_step s p) (read_bytes s p offset w buffer))

-- update; the online table has room rows, of which m are taken
unfoldable pub update_refusals : ℕ → ℕ → ℕ → ℕ → (ℕ → Bool) → List (List ℕ) → ℕ → ℕ → ℕ → ℕ → ℕ → ℕ → List Test
update_refusals size pages room m live online x p offset w kind v =
    Argument Page when not (ltb p pages)
    ∷ Argument Number when not (is_number x)
    ∷ Argument Length when not (is_length w)
    ∷ Argument Place when not (leb (offset + w) size)
    ∷ Argument Value when not (ltb v (256 ^ w))
    ∷ Argument Kind when not (leb kind 1)
    ∷ NotLive when not (live x)
    ∷ Held when held_to_update online (row_of p offset w kind v x)
    ∷ OnlineFull when no_room room m 1
    ∷ []

unfoldable pub judge_update : Lent → ℕ → ℕ → ℕ → ℕ → ℕ → ℕ → Verdict
judge_update s x p offset w kind v = verdict_of (unsound s ∷ update_refusals (size_of s) (pages_of s) (online_size_of s) (count_of s) (is_live s.lost.tables) (online_of s) x p offset w kind v)

unfoldable pub update_call : Lent → ℕ → ℕ → ℕ → ℕ → ℕ → ℕ → Outcome
update_call s x p offset w kind v = settled (judge_update s x p offset w kind v) s [] (done_with (updated s (row_of p offset w kind v x)) [])

-- commit of k records: "n + k above the log's size", "L + k above 4,294,967,295"; a commit of no record gets neither
unfoldable pub commit_refusals : ℕ → ℕ → ℕ → (ℕ → Bool) → ℕ → ℕ → List Test
commit_refusals span n last live k x =
    Argument Number when not (is_number x)
    ∷ NotLive when not (live x)
    ∷ LogFull when no_room span n k
    ∷ NumbersEnd when ltb 4294967295 (last + k)
    ∷ []

unfoldable pub judge_commit : Lent → ℕ → Verdict
judge_commit s x = verdict_of (unsound s ∷ commit_refusals (log_size_of s) (logged_of s) (last_of s) (is_live s.lost.tables) (length (owned s x)) x)

unfoldable pub commit_call : Lent → ℕ → Outcome
commit_call s x = settled (judge_commit s x) s [] (done_with (committing s x) [])

-- abort
unfoldable pub abort_refusals : (ℕ → Bool) → ℕ → List Test
abort_refusals live x = Argument Number when not (is_number x) ∷ NotLive when not (live x) ∷ []

unfoldable pub judge_abort : Lent → ℕ → Verdict
judge_abort s x = verdict_of (unsound s ∷ abort_refusals (is_live s.lost.tables) x)

unfoldable pub abort_call : Lent → ℕ → Outcome
abort_call s x = settled (judge_abort s x) s [] (done_with (aborted s x) [])

-- evict
unfoldable pub evict_refusals : ℕ → ℕ → ℕ → List Test
evict_refusals pages entry p = Argument Page when not (ltb p pages) ∷ NoFrame when not (in_frame entry) ∷ []

unfoldable pub judge_evict : Lent → ℕ → Verdict
judge_evict s p = verdict_of (unsound s ∷ evict_refusals (pages_of s) (entry_of s p) p)

unfoldable pub evict_call : Lent → ℕ → Outcome
evict_call s p = settled (judge_evict s p) s [] (done_with (evicted s p) [])

-- checkpoint: "min_del 1 to 512, max_age 0 to 4,294,967,295"
unfoldable pub checkpoint_refusals : ℕ → ℕ → List Test
checkpoint_refusals min_del max_age = Argument Parameter when not (between 1 min_del 512 && leb max_age 4294967295) ∷ []

-- compact: these, after the page
unfoldable pub compact_refusals : ℕ → ℕ → ℕ → ℕ → List Test
compact_refusals pages p min_del max_age = Argument Page when not (ltb p pages) ∷ checkpoint_refusals min_del max_age

unfoldable pub judge_compact : Lent → ℕ → ℕ → ℕ → Verdict
judge_compact s p min_del max_age = verdict_of (unsound s ∷ compact_refusals (pages_of s) p min_del max_age)

-- "If not due: done, "not due", no change."
abbrev pub due_or : Bool → Lent → Outcome → Outcome
due_or true s o = o
due_or false s o = record { answer = NotDue; lent = s; buffer = [] }

unfoldable pub compact_call : Lent → ℕ → ℕ → ℕ → Outcome
compact_call s p min_del max_age = settled (judge_compact s p min_del max_age) s [] (due_or (due s p min_del max_age) s (done_with (compacted s p) []))

-- close
unfoldable pub judge_close : Lent → Verdict
judge_close s = verdict_of (unsound s ∷ [])

unfoldable pub close_call : Lent → Outcome
close_call s = settled (judge_close s) s [] (done_with (closed s) [])

-- checkpoint
unfoldable pub judge_checkpoint : Lent → ℕ → ℕ → Verdict
judge_checkpoint s min_del max_age = verdict_of (unsound s ∷ checkpoint_refusals min_del max_age)

unfoldable pub checkpoint_call : Lent → ℕ → ℕ → Outcome
checkpoint_call s min_del max_age = settled (judge_checkpoint s min_del max_age) s [] (done_with (checkpointed min_del max_age s) [])

-- restart: "more records enter than it holds"
unfoldable pub judge_restart : Lent → Verdict
judge_restart s = verdict_of (NotSound when not (sound_durable s) ∷ OnlineFull when ltb (online_size_of s) (length (entering_all s)) ∷ [])

unfoldable pub restart_call : Lent → Outcome
restart_call s = settled (judge_restart s) s [] (done_with (restarted s) [])

-- format: "an argument out of its range, … or (format) a lent length wrong"; "last log number L | 0 to 4,294,967,295"
unfoldable pub judge_format : Lent → Params → ℕ → Verdict
judge_format s g last =
    verdict_of
    (Argument Parameter when not (in_range g && leb last 4294967295)
    ∷ Argument LentLength when not (eqb (length s.durable.fixed) fixed_length && exact_lengths s g)
    ∷ [])

unfoldable pub format_call : Lent → Params → ℕ → Outcome
format_call s g last = settled (judge_format s g last) s [] (done_with (formatted s g last) [])
