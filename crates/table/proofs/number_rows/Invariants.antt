-- The rows passed are written, those after are as they were: with those still to be numbered they are the table as it is to be.
use Rattle.table.proofs.Turns.{Numbering}
use Rattle.table.proofs.number_rows.Given as goal

abbrev pub invariant-loop-j : goal.invariant-loop-j
invariant-loop-j l = Numbering l.owner l.next l.m l.initial.t l.t l.k l.j
