-- `Order::save` meets its contract: the bytes passed are those of the padded order.
use Rattle.std.proofs.Common.{◌≡◌, ◌++◌, length, take, replicate}
use Rattle.order.proofs.Order.save.Given as goal

abbrev pub invariant-loop-i : goal.invariant-loop-i
invariant-loop-i l = take l.i l.t ≡ take l.i (l.self ++ replicate (length l.initial.t) 0)
