-- What is restored from here is what is restored in all.
use Rattle.std.proofs.Common.{◌+◌, ◌*◌}
use Rattle.journalplay.proofs.Restores.{Left}
use Rattle.journalplay.proofs.restore.restore.Given as goal

abbrev pub invariant-loop-i : goal.invariant-loop-i
invariant-loop-i l = Left l.k l.size l.body l.initial.pages l.i (l.i * (l.size + 8)) l.pages
