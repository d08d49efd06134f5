-- The rows that stay stand at the front, those not passed are as they were: with those still to stay they are all that do.
use Rattle.table.specs.Stays.{stays_of}
use Rattle.table.proofs.Turns.{Squeezing}
use Rattle.table.proofs.squeeze.Given as goal

abbrev pub invariant-loop-j : goal.invariant-loop-j
invariant-loop-j l = Squeezing (stays_of l.of l.owner) l.to l.initial.t l.t l.k l.j
