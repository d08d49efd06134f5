-- `steps::abort::free_frames` meets its contract: the rows still to come do to the order so far what all rows do to the first.
use Rattle.std.proofs.Common.{◌≡◌, drop}
use Rattle.record.specs.Rows.{keep}
use Rattle.record.specs.Record.{owned_by}
use Rattle.rules.specs.Steps.{frames_freed}
use Rattle.steps.proofs.abort.free_frames.Given as goal

abbrev pub invariant-loop-row : goal.invariant-loop-row
invariant-loop-row l = frames_freed l.frames l.tables (keep (owned_by l.owner) (drop l.row-index l.online)) l.o ≡ frames_freed l.frames l.tables (keep (owned_by l.owner) l.online) l.initial.o
