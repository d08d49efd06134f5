-- `steps::abort::judge_anew` meets its contract: the rows still to come do to the tables so far what all rows do to the first.
use Rattle.std.proofs.Common.{◌≡◌, drop}
use mathlib.Core.Bool.{true}
use Rattle.record.specs.Rows.{keep}
use Rattle.record.specs.Record.{owned_by}
use Rattle.table.specs.Stays.{stays}
use Rattle.rules.specs.Steps.{judged_anew}
use Rattle.steps.proofs.abort.judge_anew.Given as goal

abbrev pub invariant-loop-row : goal.invariant-loop-row
invariant-loop-row l = judged_anew l.frames (keep (stays true l.owner 0) l.online) (keep (owned_by l.owner) (drop l.row-index l.online)) l.tables ≡ judged_anew l.frames (keep (stays true l.owner 0) l.online) (keep (owned_by l.owner) l.online) l.initial.tables
