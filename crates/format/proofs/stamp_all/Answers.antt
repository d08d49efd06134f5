use Rattle.format.proofs.Laws.{stamp_turn, stamp_done}
use Rattle.format.proofs.stamp_all.Goals as goal

pub loop-p-preserved : goal.loop-p-preserved
loop-p-preserved c = stamp_turn _ _ _ _ _ _ c.loop-p-test.true c.store.ensures c.loop-p.invariant

pub returns : goal.returns
returns c = stamp_done _ _ _ _ _ c.loop-p-test.false c.loop-p.invariant
