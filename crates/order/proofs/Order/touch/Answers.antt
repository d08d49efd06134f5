-- `Order::touch` meets its contract: the frame is put last among those that are left.
use Rattle.std.proofs.Common.{rules, ◌∙◌}
use Rattle.order.proofs.Laws.{touch_last}
use Rattle.order.proofs.Order.touch.Goals as goal

pub returns : goal.returns
returns c = touch_last _ _ _ _ (search rules) (c.next.view_is ∙ c.free-next.ensures.0)
