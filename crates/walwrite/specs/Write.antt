-- Committed pages written as a write-ahead log: the refusals in their order, the answer, the target afterwards.
use Rattle.std.specs.Prelude.{ℕ, ◌+◌, ◌*◌, Bool, true, false, not, ◌&&◌, List, ◌++◌, length, drop, eqb, leb, ltb, Result, Ok, Err}
use Rattle.rules.specs.declared.Bad.TheVariants.{Page, Parameter}
use Rattle.rules.specs.declared.Refusal.TheVariants.{NotSound, Argument}
use Rattle.rules.specs.declared.Reply.{Reply}
use Rattle.rules.specs.Answers.{code_of}
use Rattle.rules.specs.Lent.{Lent, size_of, pages_of}
use Rattle.rules.specs.Sound.{every, sound}
use Rattle.wal.specs.Written.{written}
use Rattle.walwrite.specs.declared.Why.{Why}
use Rattle.walwrite.specs.declared.Why.TheVariants.{Store, ShortTarget, EmptyList}
use Rattle.walwrite.specs.Image.{image_of}

-- "1 and 2 as before, then 14 target too short, 15 list empty"
abbrev pub code_of_why : Why → ℕ
code_of_why (Store r) = code_of r
code_of_why ShortTarget = 14
code_of_why EmptyList = 15

abbrev pub reply_of_why : Why → Reply
reply_of_why w = record { code = code_of_why w; note = 0; reads = 0; writes = 0; logs = 0 }

-- what judging says
abbrev pub Ruling : Type 0
Ruling = Result (Unit {0}) Why

-- a refusal if the test holds, else what follows
unfoldable pub refuse_if : Bool → Why → Ruling → Ruling
refuse_if true w v = Err w
refuse_if false w v = v

-- every page listed is below the pages
abbrev pub listed : ℕ → List ℕ → Bool
listed pages list = every (λ (p : ℕ). ltb p pages) list

unfoldable pub may_write : ℕ → ℕ → List ℕ → ℕ → ℕ → Ruling
may_write size pages list room order =
    refuse_if (not (listed pages list)) (Store (Argument Page))
    (refuse_if (not (leb order 1 && leb (length list) 4294967295)) (Store (Argument Parameter))
    (refuse_if (ltb room (32 + length list * (24 + size))) ShortTarget
    (refuse_if (eqb (length list) 0) EmptyList
    (Ok tt))))

-- the list, the target's length, the byte order: 0 lowest byte first, 1 highest byte first
unfoldable pub judge_write : Lent → List ℕ → ℕ → ℕ → Ruling
judge_write s list room order = refuse_if (not (sound s)) (Store NotSound) (may_write (size_of s) (pages_of s) list room order)

-- the log that is written
abbrev pub log_of : Lent → List ℕ → ℕ → ℕ → ℕ → ℕ → List ℕ
log_of s list salt1 salt2 sequence order = written (eqb order 1) (size_of s) sequence salt1 salt2 (image_of s) (pages_of s) list

-- the reply, and the target afterwards
pub record Outcome : Type 0 where
  pub reply : Reply
  pub target : List ℕ

-- "one page read for each page listed", "Target bytes past the end stay"
abbrev pub settled : Ruling → List ℕ → List ℕ → List ℕ → Outcome
settled (Ok u) list target log = record { reply = record { code = 0; note = 0; reads = length list; writes = 0; logs = 0 }; target = log ++ drop (length log) target }
settled (Err w) list target log = record { reply = reply_of_why w; target = target }

unfoldable pub write_call : Lent → List ℕ → List ℕ → ℕ → ℕ → ℕ → ℕ → Outcome
write_call s list target salt1 salt2 sequence order = settled (judge_write s list (length target) order) list target (log_of s list salt1 salt2 sequence order)
