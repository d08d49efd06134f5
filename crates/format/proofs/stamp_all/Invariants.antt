-- The stamps still to be written, written to the marks as they are, make what all of them make of the marks at entry.
use Prim.Native.Nat.{◌-◌}
use mathlib.Core.Path.{◌≡◌}
use Rattle.rules.specs.Steps.{stamped}
use Rattle.format.proofs.stamp_all.Given as goal

abbrev pub invariant-loop-p : goal.invariant-loop-p
invariant-loop-p l = stamped (l.pages - l.p) l.p l.last l.marks ≡ stamped l.pages 0 l.last l.initial.marks
