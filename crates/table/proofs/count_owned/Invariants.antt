-- The rows counted so far and those still to be counted are all.
use Prim.Native.Nat.{◌+◌, ◌≤◌}
use mathlib.Core.Path.{◌≡◌}
use lib.ListN.{length, drop}
use Rattle.record.specs.Rows.{keep}
use Rattle.record.specs.Record.{owned_by}
use Rattle.table.proofs.count_owned.Given as goal

abbrev pub invariant-loop-row : goal.invariant-loop-row
invariant-loop-row l = (l.n ≤ l.row-index) × (l.n + length (keep (owned_by l.owner) (drop l.row-index l.online)) ≡ 0 + length (keep (owned_by l.owner) l.online))
