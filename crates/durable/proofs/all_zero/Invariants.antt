-- `durable::all_zero` meets its contract: the greatest byte so far and what is still to be looked at decide.
use Rattle.std.proofs.Common.{◌≡◌, ◌&&◌, eqb, drop}
use Rattle.rules.specs.Sound.{zeros}
use Rattle.durable.proofs.all_zero.Given as goal

abbrev pub invariant-loop-b : goal.invariant-loop-b
invariant-loop-b l = (eqb l.most 0 && zeros (drop l.b-index l.s)) ≡ zeros l.s
