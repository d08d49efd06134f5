-- `apply::fold` meets its contract: the chosen rows still to come, applied to the page as it is, make what all of them make of the page at entry.
use Rattle.std.proofs.Common.{◌≡◌, drop, length}
use Rattle.record.specs.Rows.{keep}
use Rattle.record.specs.Record.{applied, chosen}
use Rattle.apply.proofs.fold.Given as goal

abbrev pub invariant-loop-row : goal.invariant-loop-row
invariant-loop-row l = (applied (keep (chosen l.only l.p.0) (drop l.row-index l.online)) l.g ≡ applied (keep (chosen l.only l.p.0) l.online) l.initial.g)
    × (length l.g ≡ length l.initial.g)
