use Rattle.walwrite.proofs.Laws.{below_turn, below_stop, below_done}
use Rattle.walwrite.proofs.all_below.Goals as goal

pub returns-then-pages-p : goal.returns-then-pages-p
returns-then-pages-p c = below_stop _ _ _ _ c.loop-p-test.true c.if-pages-p.true c.loop-p.invariant

pub loop-p-preserved : goal.loop-p-preserved
loop-p-preserved c = below_turn _ _ _ _ c.loop-p-test.true c.if-pages-p.false c.loop-p.invariant

pub returns : goal.returns
returns c = below_done _ _ _ _ c.loop-p-test.false c.loop-p.invariant
