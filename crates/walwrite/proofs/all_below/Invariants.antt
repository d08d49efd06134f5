-- `all_below` meets its contract: the pages still to come decide as all of them do.
use Rattle.std.proofs.Common.{◌≡◌, drop}
use Rattle.walwrite.specs.Write.{listed}
use Rattle.walwrite.proofs.all_below.Given as goal

abbrev pub invariant-loop-p : goal.invariant-loop-p
invariant-loop-p l = listed l.pages (drop l.p-index l.list) ≡ listed l.pages l.list
