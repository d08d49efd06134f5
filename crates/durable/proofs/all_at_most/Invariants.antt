-- `durable::all_at_most` meets its contract: `ok` says it of the pages passed.
use Rattle.std.proofs.Common.{◌≡◌}
use Rattle.rules.specs.Sound.{up_to}
use Rattle.durable.specs.Marks.{number_within}
use Rattle.durable.proofs.all_at_most.Given as goal

abbrev pub invariant-loop-p : goal.invariant-loop-p
invariant-loop-p l = l.ok ≡ up_to (number_within l.marks l.at l.limit) l.p 0
