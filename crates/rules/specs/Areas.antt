-- The seven lent areas as a contract names them: a word more, or an area more, is said here.
use Rattle.std.specs.Prelude.{ℕ, List}
use Rattle.rules.specs.Lent.{Lent, lent_of}
use Rattle.rules.specs.declared.Areas.{Areas}

-- an area's bytes
abbrev pub Area : Type 0
Area = List ℕ

-- what the areas hold; a contract speaks of it before a call and after it
abbrev pub areas : Area → Area → Area → Area → Area → Area → Area → Lent
areas fixed marks log stored tables online pool = lent_of fixed marks log stored tables online pool

-- of areas that are lent together
abbrev pub areas_of : Areas → Lent
areas_of a = areas a.fixed.now a.marks.now a.log.now a.stored.now a.tables.now a.online.now a.pool.now
