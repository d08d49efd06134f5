-- `onlinecheck::apart::rows_apart` meets its contract: at the end every page that has rows has begun.
use Rattle.onlinecheck.specs.Bytes.{Passed}
use Rattle.onlinecheck.proofs.apart.rows_apart.Given as goal

abbrev pub invariant-loop-i : goal.invariant-loop-i
invariant-loop-i l = Passed l.online l.i l.heads l.marks
