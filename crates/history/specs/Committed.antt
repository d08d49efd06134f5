-- What was committed, as a part of the history: the rows with their numbers, in the order made.
use Rattle.std.specs.Prelude.{ℕ, Bool, ◌&&◌, List, leb}
use Rattle.record.specs.Rows.{keep}
use Rattle.record.specs.Record.{number_of, committed}
use Rattle.history.specs.Past.{Past}

-- the committed updates, with their numbers, in the order made
abbrev pub committed_of : Past → List (List ℕ)
committed_of h = keep committed h.made

-- committed under a number up to n
abbrev pub numbered_to : ℕ → List ℕ → Bool
numbered_to n r = committed r && leb (number_of r) n
