-- The rows counted so far and those still to come are all.
use Rattle.std.proofs.Common.{◌≡◌, ◌+◌, ◌≤◌, length}
use Rattle.restart.specs.Enter.{entering_by}
use Rattle.restart.proofs.Laws.{rest}
use Rattle.restart.proofs.Records.count_entering.Given as goal

abbrev pub invariant-loop-i : goal.invariant-loop-i
invariant-loop-i l = (l.m ≤ l.i) × (l.m + length (rest l.self.marks.now l.self.pages l.self.first.0 l.self.rows.now l.i) ≡ length (entering_by l.self.marks.now l.self.pages l.self.first.0 l.self.rows.now))
