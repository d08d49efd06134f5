use Rattle.table.proofs.Turns.{squeeze_start, squeeze_more, squeeze_all}
use Rattle.table.proofs.squeeze.Goals as goal

pub loop-j-init : goal.loop-j-init
loop-j-init c = squeeze_start _ _ _ _ c.requires.2 c.requires.1

pub loop-j-preserved : goal.loop-j-preserved
loop-j-preserved c = squeeze_more _ _ _ _ _ _ _ _ c.loop-j.invariant c.requires.0 c.loop-j-test.true c.keep_row-k.ensures.0 c.keep_row-k.ensures.1

pub returns : goal.returns
returns c = squeeze_all _ _ _ _ _ _ c.loop-j.invariant c.loop-j-test.false
