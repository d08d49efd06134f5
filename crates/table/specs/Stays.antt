-- Rows that a deletion keeps.
use Rattle.std.specs.Prelude.{ℕ, Bool, true, false, not, List, Option, None, Some}
use Rattle.number.specs.declared.PageNo.{PageNo}
use Rattle.record.specs.Record.{gone}

abbrev pub stays : Bool → ℕ → ℕ → List ℕ → Bool
stays whole x p r = not (gone whole x p r)

-- an owner's rows, all or those of a page
abbrev pub gone_of : Option PageNo → ℕ → List ℕ → Bool
gone_of None x r = gone true x 0 r
gone_of (Some p) x r = gone false x p.0 r

abbrev pub stays_of : Option PageNo → ℕ → List ℕ → Bool
stays_of of x r = not (gone_of of x r)
