-- The rows passed are in the survey.
use Rattle.table.proofs.Surveys.{Surveying}
use Rattle.table.proofs.survey.Given as goal

abbrev pub invariant-loop-i : goal.invariant-loop-i
invariant-loop-i l = Surveying l.p.0 l.online l.s l.i
