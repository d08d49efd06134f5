-- `pagetable::tally` meets its contract: each slot has the count of the bytes passed.
use Rattle.pagetable.proofs.Loops.{Tallying}
use Rattle.pagetable.proofs.tally.Given as goal

abbrev pub invariant-loop-b : goal.invariant-loop-b
invariant-loop-b g l = Tallying g.row.SHARE g.row.LEAST l.s l.b-index l.a
