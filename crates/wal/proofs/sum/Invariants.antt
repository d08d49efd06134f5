use Rattle.std.proofs.Common.{◌≡◌, ◌+◌, ◌-◌, ◌*◌}
use Rattle.wal.specs.Sum.{summed}
use Rattle.wal.proofs.sum.Given as goal

abbrev pub invariant-loop-i : goal.invariant-loop-i
invariant-loop-i l = summed l.big (l.n - l.i) l.s (l.at + 8 * l.i) l.sums ≡ summed l.big l.n l.s l.at l.initial.sums
