-- The two calls: the refusals in request Thirteen's order with their numbers, what is told, and what is left. A refusal leaves
-- every lent byte.
use Rattle.std.specs.Prelude.{◌≡◌, ℕ, ◌/◌, ◌%◌, ◌^◌, Bool, true, false, not, ◌&&◌, List, ◌++◌, length, drop, ◌==◌, nat_le, nat_lt, Option, None, Some, Result, Ok, Err}
use Rattle.journal.specs.declared.Refusal.{Refusal}
use Rattle.journal.specs.declared.Refusal.TheVariants.{ShortTarget, EmptyList, BadPage, BadParameter, BadLength, BadHeader, WrongPage}
use Rattle.journal.specs.declared.Fault.{Fault}
use Rattle.journal.specs.declared.Fault.TheVariants.{CutShort, BadSum}
use Rattle.journal.specs.declared.Run.{Run}
use Rattle.journal.specs.declared.Reply.{Reply}
use Rattle.journal.specs.Layout.{is_size, is_sector, whole_pages, is_header}
use Rattle.journal.specs.Playing.{run_of, to_restore, outside, restored}
use Rattle.journal.specs.Writing.{any_past, journal_length, journal_bytes}

-- the reply, and the lent bytes that the call may change
pub record Outcome : Type 0 where
  pub reply : Reply
  pub bytes : List ℕ

-- a refusal's number
abbrev pub code_of : Refusal → ℕ
code_of ShortTarget = 14
code_of EmptyList = 15
code_of BadPage = 20
code_of BadParameter = 26
code_of BadLength = 27
code_of BadHeader = 29
code_of WrongPage = 30

-- what ended the records: 0 the header's count, 1 a record cut short, 2 a wrong checksum
abbrev pub ended_of : Option Fault → ℕ
ended_of None = 0
ended_of (Some CutShort) = 1
ended_of (Some BadSum) = 2

-- the answers as C has them
abbrev pub reply_refused : Refusal → Reply
reply_refused r = record { code = code_of r; ended = 0; records = 0 }

abbrev pub reply_played : Run → Reply
reply_played r = record { code = 0; ended = ended_of r.ended; records = r.count % 2 ^ 32 }

-- a refusal if the test holds, else what follows
unfoldable pub refuse_if : {A : Type 0} → Bool → Refusal → Result A Refusal → Result A Refusal
refuse_if true r v = Err r
refuse_if false r v = v

-- a refusal tells its number, and the bytes stay
abbrev pub settled : {A : Type 0} → Result A Refusal → List ℕ → Outcome → Outcome
settled (Ok x) l o = o
settled (Err r) l o = record { reply = reply_refused r; bytes = l }

-- playing: 26, 27, 29, 30, or how far the records go
unfoldable pub judge_play : List ℕ → ℕ → ℕ → Result Run Refusal
judge_play j lent size =
    refuse_if (not (is_size size)) BadParameter
    (refuse_if (not (whole_pages size lent)) BadLength
    (refuse_if (not (is_header size j)) BadHeader
    (refuse_if (outside (lent / size) (to_restore size j)) WrongPage
    (Ok (run_of size j)))))

unfoldable pub play_call : List ℕ → List ℕ → ℕ → Outcome
play_call j pages size =
    settled (judge_play j (length pages) size) pages
    (record { reply = reply_played (run_of size j); bytes = restored size (to_restore size j) pages })

-- writing: 20, 26, 27, 14, 15. A count of all ones would not be a number
unfoldable pub judge_write : List ℕ → ℕ → ℕ → ℕ → ℕ → Result (Unit {0}) Refusal
judge_write list lent room size sector =
    refuse_if (any_past lent size list) BadPage
    (refuse_if (not (is_size size && is_sector sector && nat_le (length list) 4294967294)) BadParameter
    (refuse_if (not (whole_pages size lent)) BadLength
    (refuse_if (nat_lt room (journal_length sector size (length list))) ShortTarget
    (refuse_if (length list == 0) EmptyList
    (Ok tt)))))

unfoldable pub write_call : List ℕ → List ℕ → List ℕ → ℕ → ℕ → ℕ → Outcome
write_call pages list target size nonce sector =
    settled (judge_write list (length pages) (length target) size sector) target
    (record {
      reply = record { code = 0; ended = 0; records = length list };
      bytes = journal_bytes pages list size nonce sector ++ drop (journal_length sector size (length list)) target;
    })

-- the reply r and the bytes l are those of the outcome o
pub record Told (o : Outcome) (r : Reply) (l : List ℕ) : Type 0 where
  pub reply : r ≡ o.reply
  pub bytes : l ≡ o.bytes
