use Rattle.table.proofs.Turns.{number_more, number_all}
use Rattle.table.proofs.number_rows.Goals as goal

pub loop-j-preserved : goal.loop-j-preserved
loop-j-preserved c = number_more _ _ _ _ _ _ _ _ _ c.loop-j.invariant c.requires.0 c.loop-j-test.true c.number_row-k.auto.row c.number_row-k.ensures.0 c.number_row-k.ensures.1

pub returns : goal.returns
returns c = number_all _ _ _ _ _ _ _ c.loop-j.invariant c.loop-j-test.false
