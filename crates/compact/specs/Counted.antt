-- The page reads and page writes of a step: none where it was not due.
use Rattle.std.specs.Prelude.{ℕ, Option, Some, None}
use Rattle.compact.specs.declared.Compacted.{Compacted}

abbrev pub reads_of : Option Compacted → ℕ
reads_of (Some c) = c.reads
reads_of None = 0

abbrev pub writes_of : Option Compacted → ℕ
writes_of (Some c) = c.writes
writes_of None = 0
