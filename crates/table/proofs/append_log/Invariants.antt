-- The records passed are in the log, what is after them is as it was: with those still to come they are the log as it is to be.
use Rattle.table.proofs.Turns.{Logging}
use Rattle.table.proofs.append_log.Given as goal

abbrev pub invariant-loop-row : goal.invariant-loop-row
invariant-loop-row l = Logging l.owner l.n l.online l.initial.log l.log l.k l.row-index
