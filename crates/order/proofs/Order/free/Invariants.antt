-- `Order::free` meets its contract: the slots kept are those passed, without the frame.
use Rattle.std.proofs.Common.{◌≡◌, ◌+◌, ◌-◌, ◌≤◌, length, take, drop, replicate}
use Rattle.order.specs.Order.{without}
use Rattle.order.proofs.Order.free.Given as goal

abbrev pub invariant-loop-g : goal.invariant-loop-g
invariant-loop-g l = (length l.slots ≡ 65) × (l.kept ≤ l.g-index) × (take l.kept l.slots ≡ without l.f.0 (take l.g-index l.g-items)) × (drop (l.kept + 1) l.slots ≡ replicate (65 - (l.kept + 1)) 0)
