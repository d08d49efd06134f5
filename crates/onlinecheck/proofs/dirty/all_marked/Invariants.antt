-- `onlinecheck::dirty::all_marked` meets its contract: what was found so far and the entries still to come decide as all of them do.
use Prim.Native.Nat.{◌-◌}
use mathlib.Core.Path.{◌≡◌}
use mathlib.Core.Bool.{◌&&◌}
use lib.ListN.{length}
use Rattle.rules.specs.Sound.{up_to}
use Rattle.onlinecheck.specs.Marks.{entry_marked}
use Rattle.onlinecheck.proofs.dirty.all_marked.Given as goal

abbrev pub invariant-loop-e : goal.invariant-loop-e
invariant-loop-e l = (l.ok && up_to (entry_marked l.entries l.marks) (length l.entries - length l.yielded) (length l.yielded)) ≡ up_to (entry_marked l.entries l.marks) (length l.entries) 0
