-- A use order that a frame may leave.
use Rattle.std.specs.Prelude.{ℕ, List, Option, Some, None}
use Rattle.number.specs.declared.FrameNo.{FrameNo}
use Rattle.order.specs.Order.{without}

-- an order without a frame, if there is one
abbrev pub order_without : Option FrameNo → List ℕ → List ℕ
order_without (Some f) o = without f.0 o
order_without None o = o
