-- `onlinecheck::once::all_free` meets its contract: the rows still to come decide by the marks as all of them do by those at entry.
use Rattle.std.proofs.Common.{◌≡◌, drop}
use Rattle.onlinecheck.specs.Marks.{all_unmarked}
use Rattle.onlinecheck.proofs.once.all_free.Given as goal

abbrev pub invariant-loop-row : goal.invariant-loop-row
invariant-loop-row l = (all_unmarked l.first.0 (drop l.row-index l.online) l.marks ≡ all_unmarked l.first.0 l.online l.initial.marks)
