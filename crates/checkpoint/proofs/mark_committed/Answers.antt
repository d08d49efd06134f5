-- `checkpoint::mark_committed` meets its contract: the test of an owner is the one of a committed row.
use Prim.Native.Nat.{ℕ}
use lib.Dec.{eqb}
use borrow.Author.Rules.{rules}
use Rattle.checkpoint.proofs.mark_committed.Goals as goal

pub returns : goal.returns
returns c = c.mark_pages.ensures (λ (o : ℕ). eqb o 0) (λ o r lt h. search rules)
