-- `Order::frame_for` meets its contract: every frame passed is in use, so the search goes on from here.
use Rattle.std.proofs.Common.{◌≡◌, ◌-◌}
use Rattle.order.specs.Order.{frame_from, frame_for}
use Rattle.order.proofs.Order.frame_for.Given as goal

abbrev pub invariant-loop-f : goal.invariant-loop-f
invariant-loop-f l = frame_from (l.frames - l.f) l.f l.self ≡ frame_for l.frames l.self
