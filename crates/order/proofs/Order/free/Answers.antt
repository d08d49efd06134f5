use Rattle.std.proofs.Common.{rules, ◌+◌}
use Rattle.order.proofs.Laws.{free_turn}
use Rattle.order.proofs.Spare.{spare_on, spare_set, spare_more, spare_none}
use Rattle.order.proofs.Order.free.Goals as goal
use Rattle.order.proofs.Order.free.Goals.{then-kept-lt65, else-kept-lt65}

pub loop-g-preserved : goal.loop-g-preserved
loop-g-preserved c = let o = c.loop-g in (
  search rules,
  search rules,
  free_turn _ _ _ _ _ _ _ c.loop-g-test.true (search rules) c.from.ensures c.from-kept.ensures o.invariant.2,
  spare_set _ _ 65 _ _ (search rules) (spare_on (o.kept + 1) _ 65 _ (search rules) o.invariant.3),
)

pub invariant_of-result : goal.invariant_of-result
invariant_of-result c = let o = c.loop-g in
    elim c.if-kept-lt65.branch [
      | then-kept-lt65 w ↦ (search rules, search rules, rw w.slots-is (spare_more _ 65 _ (search rules) (search rules) o.invariant.3))
      | else-kept-lt65 w ↦ (search rules, search rules, rw w.slots-is (spare_none _ 65 _ (search rules) (search rules)))
    ]
