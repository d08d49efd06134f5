-- `table::mark::mark_pages` meets its contract: the rows still to come make of the marks so far what all rows make of the first.
use Prim.Native.Nat.{ℕ, ◌<◌}
use mathlib.Core.Path.{◌≡◌}
use mathlib.Core.Bool.{Bool}
use mathlib.Core.List.{List}
use lib.ListN.{drop}
use Rattle.record.specs.Rows.{keep}
use Rattle.record.specs.Record.{owner_of}
use Rattle.table.specs.Marks.{mark_pages}
use Rattle.table.proofs.mark.mark_pages.Given as goal

abbrev pub invariant-loop-row : goal.invariant-loop-row
invariant-loop-row g l = (b : ℕ → Bool) → ((o : ℕ) → (r : Bool) → o < 256 → goal.F-post g l.takes o r → r ≡ b o) → mark_pages (keep (λ (x : List ℕ). b (owner_of x)) (drop l.row-index l.online)) l.marks ≡ mark_pages (keep (λ (x : List ℕ). b (owner_of x)) l.online) l.initial.marks
