-- `onlinecheck::few::all_apart_few` meets its contract: what is left of the rows says what all of them say.
use Rattle.std.proofs.Common.{◌≡◌, drop}
use Rattle.rules.specs.Sound.{pairs, apart}
use Rattle.onlinecheck.proofs.few.all_apart_few.Given as goal

abbrev pub invariant-loop-i : goal.invariant-loop-i
invariant-loop-i l = pairs apart (drop l.i l.online) ≡ pairs apart l.online
