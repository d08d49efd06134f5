use Rattle.onlinecheck.proofs.Marks.{free_turn}
use Rattle.onlinecheck.proofs.once.all_free.Goals as goal

pub loop-row-preserved : goal.loop-row-preserved
loop-row-preserved c =
    let a = c.args in
    free_turn a.first.0 a.online.now c.loop-row.row-index c.loop-row.marks _ _ _ c.loop-row-test.true c.take_number.ensures.0 c.if-not-take_number.false c.take_number.ensures.1 c.loop-row.invariant
