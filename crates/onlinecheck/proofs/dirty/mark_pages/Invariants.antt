-- `onlinecheck::dirty::mark_pages` meets its contract: the marks so far and the rows still to come mark what all rows mark.
use Rattle.std.proofs.Common.{ℕ, ◌<◌, ◌≡◌, drop}
use Rattle.onlinecheck.specs.Marks.{marked_or_on}
use Rattle.onlinecheck.proofs.dirty.mark_pages.Given as goal

abbrev pub invariant-loop-row : goal.invariant-loop-row
invariant-loop-row l = (p : ℕ) → p < 1024 → marked_or_on l.marks (drop l.row-index l.online) p ≡ marked_or_on l.initial.marks l.online p
