-- `pagetable::all_below` meets its contract: `ok` says it of the bytes passed.
use Rattle.std.proofs.Common.{ℕ, ◌≡◌, take, ltb}
use Rattle.rules.specs.Sound.{every}
use Rattle.pagetable.proofs.all_below.Given as goal

abbrev pub invariant-loop-b : goal.invariant-loop-b
invariant-loop-b l = l.ok ≡ every (λ (b : ℕ). ltb b l.end) (take l.b-index l.s)
