-- `closing::lower_all` meets its contract: the rows still to come, on the marks as they are, make what all of them make of the marks at entry.
use Rattle.std.proofs.Common.{◌≡◌, drop}
use Rattle.rules.specs.Steps.{lowered}
use Rattle.closing.proofs.lower_all.Given as goal

abbrev pub invariant-loop-row : goal.invariant-loop-row
invariant-loop-row l = lowered l.pages (drop l.row-index l.online) l.marks ≡ lowered l.pages l.online l.initial.marks
