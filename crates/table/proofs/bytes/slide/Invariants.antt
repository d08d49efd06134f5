-- Bytes that stay are as they were. Else the first i bytes are moved, in blocks, and then the rest.
use Prim.Native.Nat.{◌-◌, ◌≤◌}
use mathlib.Core.Path.{◌≡◌}
use Rattle.record.specs.Part.{part, with_part}
use Rattle.table.proofs.bytes.slide.Given as goal

abbrev pub invariant-loop-i : goal.invariant-loop-i
invariant-loop-i l = (l.i ≤ l.n) × (l.s ≡ with_part l.to l.i l.initial.s (part l.from l.i l.initial.s))

abbrev pub decreases-loop-i : goal.decreases-loop-i
decreases-loop-i l = l.n - l.i
