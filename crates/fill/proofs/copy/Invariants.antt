-- the bytes passed are those of the other slice
use Rattle.std.proofs.Common.{◌≡◌, take}
use Rattle.fill.proofs.copy.Given as goal

abbrev pub invariant-loop-i : goal.invariant-loop-i
invariant-loop-i l = take l.i l.to ≡ take l.i l.from
