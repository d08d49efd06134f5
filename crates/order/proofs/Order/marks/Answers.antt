use Rattle.order.proofs.Laws.{marks_turn}
use Rattle.order.proofs.Order.marks.Goals as goal

pub loop-g-preserved : goal.loop-g-preserved
loop-g-preserved c = marks_turn _ _ _ _ c.loop-g-test.true c.from.ensures c.loop-g.invariant
