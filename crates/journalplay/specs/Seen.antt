-- What a look at a journal's records says.
use Rattle.std.specs.Prelude.{ℕ, List, Result, Ok}
use Rattle.journal.specs.declared.Refusal.{Refusal}
use Rattle.journal.specs.declared.Refusal.TheVariants.{WrongPage}
use Rattle.journal.specs.declared.Run.{Run}
use Rattle.journal.specs.Layout.{records}
use Rattle.journal.specs.Playing.{run, outside}
use Rattle.journal.specs.Calls.{refuse_if}

-- how far n records of the body go, unless one of them is outside the lent pages
unfoldable pub seen : ℕ → ℕ → ℕ → ℕ → List ℕ → Result Run Refusal
seen n nonce size pages body = refuse_if (outside pages (records (run n nonce size body).count size body)) WrongPage (Ok (run n nonce size body))
