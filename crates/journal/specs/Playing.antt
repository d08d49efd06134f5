-- Playing a journal back over lent pages: which records of its first header are restored, and what the pages are then.
use Rattle.std.specs.Prelude.{ℕ, zero, suc, ◌+◌, ◌-◌, ◌*◌, ◌/◌, Bool, false, cond, ◌||◌, List, [], ◌∷◌, length, drop, ◌==◌, nat_lt, Option, None, Some}
use Rattle.record.specs.Part.{part, with_part}
use Rattle.journal.specs.declared.Fault.{Fault}
use Rattle.journal.specs.declared.Fault.TheVariants.{CutShort, BadSum}
use Rattle.journal.specs.declared.Run.{Run}
use Rattle.journal.specs.Layout.{count_of, nonce_of, sector_of, checksum, Saved, sum_of, records}

-- what follows the header's sector
abbrev pub body_of : List ℕ → List ℕ
body_of j = drop (sector_of j) j

-- "A page count of all ones means as many records as the file holds"
unfoldable pub counted : ℕ → List ℕ → ℕ
counted size j = cond (count_of j == 4294967295) (length (body_of j) / (size + 8)) (count_of j)

-- the record at the front of these bytes: it is cut short, its checksum is wrong, or neither
unfoldable pub fault_of : ℕ → ℕ → List ℕ → Option Fault
fault_of nonce size l = cond (nat_lt (length l) (size + 8)) (Some CutShort) (cond (sum_of size l == checksum nonce size (part 4 size l)) None (Some BadSum))

-- "every record before the first with a bad checksum or cut short": how many, and what ended them (none: the header's count)
abbrev pub go_on : Option Fault → Run → Run
go_on None r = record { count = suc r.count; ended = r.ended }
go_on (Some f) r = record { count = 0; ended = Some f }

-- of n records at the front of these bytes
unfoldable pub run : ℕ → ℕ → ℕ → List ℕ → Run
run zero nonce size l = record { count = 0; ended = None }
run (suc n) nonce size l = go_on (fault_of nonce size l) (run n nonce size (drop (size + 8) l))

-- of the first header
unfoldable pub run_of : ℕ → List ℕ → Run
run_of size j = run (counted size j) (nonce_of j) size (body_of j)

-- the records to be restored
unfoldable pub to_restore : ℕ → List ℕ → List Saved
to_restore size j = records (run_of size j).count size (body_of j)

-- "page number 0 or beyond the lent set"; one such at least
abbrev pub is_outside : ℕ → ℕ → Bool
is_outside pages number = number == 0 || nat_lt pages number

unfoldable pub outside : ℕ → List Saved → Bool
outside pages [] = false
outside pages (r ∷ rs) = is_outside pages r.number || outside pages rs

-- the pages with one of them restored; with several, in their order
unfoldable pub with_saved : ℕ → Saved → List ℕ → List ℕ
with_saved size r pages = with_part ((r.number - 1) * size) size pages r.image

unfoldable pub restored : ℕ → List Saved → List ℕ → List ℕ
restored size [] pages = pages
restored size (r ∷ rs) pages = restored size rs (with_saved size r pages)
