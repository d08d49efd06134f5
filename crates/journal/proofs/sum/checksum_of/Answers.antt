use Rattle.std.proofs.Common.{refl, rules}
use Rattle.journal.specs.Layout.{checksum}
use Rattle.journal.proofs.Laws.{sum_turn, sum_done}
use Rattle.journal.proofs.sum.checksum_of.Goals as goal

pub loop-at-init : goal.loop-at-init
unfolding checksum
loop-at-init c = (search rules, search rules, refl)

pub loop-at-preserved : goal.loop-at-preserved
loop-at-preserved c = (search rules, search rules, sum_turn _ _ _ _ _ _ c.loop-at-test.true c.from-sum.ensures refl c.loop-at.invariant.2)

pub returns : goal.returns
returns c = sum_done _ _ _ _ c.loop-at-test.false c.loop-at.invariant.1 c.loop-at.invariant.2
