-- `frames::vacate` meets its contract: the entries passed are freed, the others are as they were.
use mathlib.Core.Path.{◌≡◌}
use mathlib.Core.List.{◌++◌, map}
use lib.ListN.{take, drop}
use Rattle.rules.specs.Steps.{freed}
use Rattle.frames.proofs.vacate.Given as goal

abbrev pub invariant-loop-e : goal.invariant-loop-e
invariant-loop-e l = take l.e-index l.entries ++ map (freed l.f.0) (drop l.e-index l.entries) ≡ map (freed l.f.0) l.initial.entries
