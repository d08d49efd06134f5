use Rattle.wal.proofs.Laws.{sum_turn, sum_done}
use Rattle.wal.proofs.sum.Goals as goal

pub loop-i-preserved : goal.loop-i-preserved
loop-i-preserved c = sum_turn _ _ _ _ _ _ _ _ _ _ c.loop-i-test.true c.word_at-x.ensures c.word_at-y.ensures c.with_pair-sums.ensures c.loop-i.invariant

pub returns : goal.returns
returns c = sum_done _ _ _ _ _ _ _ c.loop-i-test.false c.loop-i.invariant
