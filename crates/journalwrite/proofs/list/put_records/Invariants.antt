-- i records are written, each behind the one before it.
use Rattle.journalwrite.proofs.Lists.{Wrote}
use Rattle.journalwrite.proofs.list.put_records.Given as goal

abbrev pub invariant-loop-i : goal.invariant-loop-i
invariant-loop-i l = Wrote l.nonce l.size l.pages l.start l.list l.initial.target l.i l.target
