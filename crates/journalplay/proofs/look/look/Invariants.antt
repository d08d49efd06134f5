-- i records are behind, and what is left of the run is that of the bytes ahead.
use Rattle.journalplay.proofs.Looks.{Ahead}
use Rattle.journalplay.proofs.look.look.Given as goal

abbrev pub invariant-loop-i : goal.invariant-loop-i
invariant-loop-i l = Ahead l.n l.nonce l.size l.pages l.body l.i
