-- `closing::smallest_committed` meets its contract: a, with the rows still to come, makes what all rows make of 0.
use Rattle.std.proofs.Common.{◌≡◌, drop}
use Rattle.record.specs.Rows.{keep}
use Rattle.record.specs.Record.{committed, smallest}
use Rattle.closing.proofs.smallest_committed.Given as goal

abbrev pub invariant-loop-row : goal.invariant-loop-row
invariant-loop-row l = smallest l.a (keep committed (drop l.row-index l.online)) ≡ smallest 0 (keep committed l.online)
