-- `checkpoint::compact_all` meets its contract: after j turns the tables are those after j compactions, and the marks still say which pages have no committed row.
use mathlib.Core.Path.{◌≡◌}
use Rattle.word.specs.Word.{num}
use Rattle.rules.specs.Lent.{lent_of}
use Rattle.checkpoint.specs.Noted.{Noted}
use Rattle.checkpoint.specs.Halfway.{Halfway}
use Rattle.checkpoint.proofs.compact_all.Given as goal

abbrev pub invariant-loop-j : goal.invariant-loop-j
invariant-loop-j l = (l.pages ≡ num 4 l.fixed 4) × Halfway l.min_del l.max_age (lent_of l.fixed l.initial.marks l.log l.initial.stored l.initial.tables l.initial.online l.pool) (lent_of l.fixed l.marks l.log l.stored l.tables l.online l.pool) l.reads l.writes l.j × Noted l.seen (lent_of l.fixed l.marks l.log l.stored l.tables l.online l.pool)
