-- `onlinecheck::apart::take_bytes` meets its contract: the bytes still to come are as they were, and decide as all do.
use Rattle.onlinecheck.proofs.Bytes.{Taking}
use Rattle.onlinecheck.proofs.apart.take_bytes.Given as goal

abbrev pub invariant-loop-mark : goal.invariant-loop-mark
invariant-loop-mark l = Taking l.base l.mine l.initial.bytes l.mark-index l.bytes
