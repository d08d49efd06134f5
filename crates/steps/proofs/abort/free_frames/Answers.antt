use Rattle.steps.proofs.Laws.{freed_turn, freed_end}
use Rattle.steps.proofs.abort.free_frames.Goals as goal

pub loop-row-preserved : goal.loop-row-preserved
loop-row-preserved c = freed_turn _ _ _ _ _ _ _ _ c.loop-row-test.true c.free_row-o.ensures c.loop-row.invariant

pub returns : goal.returns
returns c = freed_end _ _ _ _ _ _ _ c.loop-row-test.false c.loop-row.invariant
