use Rattle.word.proofs.Laws.{store_done}
use Rattle.word.proofs.store.Goals as goal

pub returns : goal.returns
returns c = store_done _ _ _ _ _ _ c.loop-i.auto.i-end c.loop-i-test.false c.loop-i.invariant
