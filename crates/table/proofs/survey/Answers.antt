use mathlib.Core.Path.{refl}
use Rattle.table.proofs.Surveys.{survey_none, survey_more, survey_all}
use Rattle.table.proofs.survey.Goals as goal

pub loop-i-init : goal.loop-i-init
loop-i-init c = survey_none _ _ _ refl refl refl refl refl refl

pub loop-i-preserved : goal.loop-i-preserved
loop-i-preserved c = survey_more _ _ _ _ _ c.loop-i.invariant c.loop-i-test.true c.look-s.ensures

pub returns : goal.returns
returns c = survey_all _ _ _ _ c.loop-i.invariant c.loop-i-test.false
