-- `Order::marks` meets its contract: the marks tell who is named among the frames passed.
use Rattle.std.proofs.Common.{take}
use Rattle.order.proofs.Laws.{Marks}
use Rattle.order.proofs.Order.marks.Given as goal

abbrev pub invariant-loop-g : goal.invariant-loop-g
invariant-loop-g l = Marks l.marks (take l.g-index l.g-items)
