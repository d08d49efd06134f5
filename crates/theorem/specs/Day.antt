-- An ordinary firmware: it lends each call what the last one left, and when the power is back it calls restart, or format, before anything else.
use Rattle.std.specs.Prelude.{ℕ, zero, suc, ◌+◌, cond, List, [], ◌∷◌, length, leb, Ok, Err}
use Rattle.rules.specs.declared.Params.{Params}
use Rattle.rules.specs.declared.Answer.{Answer}
use Rattle.rules.specs.declared.Answer.TheVariants.{Done, NotDue, Refused}
use Rattle.rules.specs.Calls.{Verdict}
use Rattle.rules.specs.Lent.{Lent, Lost, pages_of}
use Rattle.rules.specs.Calls.{format_call, judge_checkpoint}
use Rattle.history.specs.Past.{Past, fresh, falls}
use Rattle.history.specs.Run.{Call, Restart, outcome, told, after_loss, after_steps}

-- what is called first when the power is back: restart; or a format, and restart if it is refused
pub data First : Type 0 where
  Restarts : First
  FormatsFirst : Params → ℕ → First

-- a call with any arguments, a format too; a loss between calls; a loss inside a checkpoint, after its first j steps.
-- `hold a i` is byte i of the lost area a (tables, online, pool) when the power is back: anything at all. `again` is a loss more for each, before anything is called
pub data Event : Type 0 where
  Calls : Call → Event
  Formats : Params → ℕ → Event
  Loses : (hold : ℕ → ℕ → ℕ) (again : List (ℕ → ℕ → ℕ)) → First → Event
  LosesInside : (min_del max_age j : ℕ) (hold : ℕ → ℕ → ℕ) (again : List (ℕ → ℕ → ℕ)) → First → Event

-- n bytes: f 0, f 1, and so on
unfoldable pub bytes : ℕ → (ℕ → ℕ) → List ℕ
bytes zero f = []
bytes (suc n) f = f 0 ∷ bytes n (λ (i : ℕ). f (suc i))

-- the lost areas, of the lengths that they had
unfoldable pub filled : Lent → (ℕ → ℕ → ℕ) → Lost
filled s hold =
    record {
      tables = bytes (length s.lost.tables) (hold 0);
      online = bytes (length s.lost.online) (hold 1);
      pool = bytes (length s.lost.pool) (hold 2);
    }

-- the history, as calls and answers tell it, and the lent bytes
pub record Store : Type 0 where
  pub past : Past
  pub lent : Lent

-- after a format that is accepted the history is a new one
unfoldable pub anew : Answer → Past → Past → Past
anew (Done counts) h k = k
anew NotDue h k = h
anew (Refused r) h k = h

-- a store after its first format
abbrev pub freshly : Lent → Params → ℕ → Store
freshly s g last = record { past = fresh g last s.durable.stored; lent = (format_call s g last).lent }

-- a call: the history goes by its answer
unfoldable pub called : Store → Call → Store
called d c = record { past = told d.past c (outcome d.lent c).answer; lent = (outcome d.lent c).lent }

-- a format: a new history if it is accepted
unfoldable pub formats : Store → Params → ℕ → Store
formats d g last =
    record {
      past = anew (format_call d.lent g last).answer d.past (fresh g last d.lent.durable.stored);
      lent = (format_call d.lent g last).lent;
    }

-- power is lost when the history is h and the bytes are t
unfoldable pub fallen : Past → Lent → Lost → Store
fallen h t l = record { past = falls h; lent = after_loss t l }

-- and lost again, before anything is called
unfoldable pub lost_once_more : Store → List (ℕ → ℕ → ℕ) → Store
lost_once_more d [] = d
lost_once_more d (hold ∷ again) = lost_once_more (fallen d.past d.lent (filled d.lent hold)) again

-- a first format that is refused is followed by restart
unfoldable pub or_restart : Answer → Store → Store
or_restart (Done counts) d = d
or_restart NotDue d = called d Restart
or_restart (Refused r) d = called d Restart

-- the power is back
unfoldable pub back : Store → First → Store
back d Restarts = called d Restart
back d (FormatsFirst g last) = or_restart (format_call d.lent g last).answer (formats d g last)

-- the bytes inside a checkpoint, after its first j steps; a checkpoint that is refused, or has no such step, has left them alone
unfoldable pub bytes_inside : Verdict → ℕ → ℕ → ℕ → Lent → Lent
bytes_inside (Ok tt) min_del max_age j s = cond (leb j (pages_of s + 1)) (after_steps min_del max_age j s) s
bytes_inside (Err r) min_del max_age j s = s

-- what the store is after an event
unfoldable pub next : Store → Event → Store
next d (Calls c) = called d c
next d (Formats g last) = formats d g last
next d (Loses hold again first) = back (lost_once_more (fallen d.past d.lent (filled d.lent hold)) again) first
next d (LosesInside min_del max_age j hold again first) =
    back (lost_once_more (fallen d.past (bytes_inside (judge_checkpoint d.lent min_del max_age) min_del max_age j d.lent) (filled d.lent hold)) again) first

-- and after a day's events
unfoldable pub day : Store → List Event → Store
day d [] = d
day d (e ∷ es) = day (next d e) es
