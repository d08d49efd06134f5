-- The first i bytes are moved; each is read before it is written over.
use mathlib.Core.Path.{◌≡◌}
use Rattle.record.specs.Part.{part, with_part}
use Rattle.table.proofs.bytes.slide_bytes.Given as goal

abbrev pub invariant-loop-i : goal.invariant-loop-i
invariant-loop-i l = l.s ≡ with_part l.to l.i l.initial.s (part l.from l.i l.initial.s)
