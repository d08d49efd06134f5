-- `walwrite::fold` meets its contract: the rows still to come, applied to the page as it is, are all rows applied to the page as it was.
use Prim.Native.Nat.{◌≤◌}
use mathlib.Core.Path.{◌≡◌}
use lib.ListN.{length}
use Rattle.record.specs.Rows.{keep}
use Rattle.record.specs.Record.{committed_on, applied}
use Rattle.walwrite.proofs.fold.Given as goal

abbrev pub invariant-loop-i : goal.invariant-loop-i
invariant-loop-i l = record {
  within : length l.rest ≤ length l.online;
  left : applied (keep (committed_on l.p.0) l.rest) l.g ≡ applied (keep (committed_on l.p.0) l.online) l.initial.g;
}

abbrev pub decreases-loop-i : goal.decreases-loop-i
decreases-loop-i l = length l.rest
