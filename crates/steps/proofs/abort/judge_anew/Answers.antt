use Rattle.std.proofs.Common.{rules}
use Rattle.steps.proofs.Laws.{judged_turn, judged_end}
use Rattle.steps.proofs.abort.judge_anew.Goals as goal

pub loop-row-preserved : goal.loop-row-preserved
loop-row-preserved c = judged_turn _ _ _ _ _ _ _ _ _ c.loop-row-test.true (search rules) c.mark_stays.ensures c.judge_row.ensures c.loop-row.invariant

pub returns : goal.returns
returns c = judged_end _ _ _ _ _ _ _ c.loop-row-test.false c.loop-row.invariant
