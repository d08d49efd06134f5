-- 01's number and values for each answer. docs/RULES.md 8.
use Rattle.std.specs.Prelude.{ℕ}
use Rattle.rules.specs.declared.Refusal.{Refusal}
use Rattle.rules.specs.declared.Refusal.TheVariants.{NotSound, Argument, ShortBuffer, NotLive, Live, Held, OnlineFull, LogFull, NumbersEnd, NoFrame}
use Rattle.rules.specs.declared.Answer.{Answer}
use Rattle.rules.specs.declared.Answer.TheVariants.{Done, NotDue, Refused}
use Rattle.rules.specs.declared.Reply.{Reply}

-- "Refusals by number"
abbrev pub code_of : Refusal → ℕ
code_of NotSound = 1
code_of (Argument b) = 2
code_of ShortBuffer = 3
code_of NotLive = 4
code_of Live = 5
code_of Held = 6
code_of OnlineFull = 7
code_of LogFull = 8
code_of NumbersEnd = 9
code_of NoFrame = 10

-- "Done is 0"; "A refusal gives its number and zero counts"; not due is done with a note of its own
abbrev pub reply_of : Answer → Reply
reply_of (Done c) = record { code = 0; note = 0; reads = c.reads; writes = c.writes; logs = c.logs }
reply_of NotDue = record { code = 0; note = 1; reads = 0; writes = 0; logs = 0 }
reply_of (Refused r) = record { code = code_of r; note = 0; reads = 0; writes = 0; logs = 0 }
