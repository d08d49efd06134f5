-- Rows entered so far and those still to come are all; the laws are those of `Entering`.
use Rattle.restart.proofs.Turns.{Entering}
use Rattle.restart.proofs.Records.enter.Given as goal

abbrev pub invariant-loop-i : goal.invariant-loop-i
invariant-loop-i l = Entering l.self.marks.now l.self.pages l.self.first.0 l.self.rows.now l.frames l.initial.tables l.initial.online l.tables l.online l.m l.i
