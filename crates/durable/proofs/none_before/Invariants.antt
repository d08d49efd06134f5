-- `durable::none_before` meets its contract: `ok` says it of the pages passed.
use Rattle.std.proofs.Common.{◌≡◌, ◌+◌}
use Rattle.rules.specs.Sound.{up_to}
use Rattle.durable.specs.Marks.{dirty_from}
use Rattle.durable.proofs.none_before.Given as goal

abbrev pub invariant-loop-p : goal.invariant-loop-p
invariant-loop-p l = l.ok ≡ up_to (dirty_from l.marks l.pages (l.limit + 1)) l.p 0
