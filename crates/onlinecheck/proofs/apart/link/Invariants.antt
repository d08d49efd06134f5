-- `onlinecheck::apart::link` meets its contract: the chains have the rows passed.
use Rattle.onlinecheck.specs.Bytes.{Linked}
use Rattle.onlinecheck.proofs.apart.link.Given as goal

abbrev pub invariant-loop-i : goal.invariant-loop-i
invariant-loop-i l = Linked l.online l.i l.heads l.after
