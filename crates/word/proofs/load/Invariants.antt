-- `word::load` meets its contract: the loop goes from the highest byte down, and n is the number of the bytes passed.
use Rattle.std.proofs.Common.{◌≡◌, ◌+◌, ◌-◌, ◌<◌, ◌^◌}
use Rattle.word.specs.Word.{num}
use Rattle.word.proofs.load.Given as goal

abbrev pub invariant-loop-i : goal.invariant-loop-i
invariant-loop-i l = (l.n ≡ num (l.w - l.i) l.s (l.at + l.i)) × (l.n < 256 ^ (l.w - l.i))
