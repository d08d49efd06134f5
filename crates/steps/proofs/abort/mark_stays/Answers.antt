-- `steps::abort::mark_stays` meets its contract: the test of an owner is the one of a row that stays.
use Prim.Native.Nat.{ℕ}
use mathlib.Core.Bool.{not}
use lib.Dec.{eqb}
use borrow.Author.Rules.{rules}
use Rattle.steps.proofs.abort.mark_stays.Goals as goal

pub returns : goal.returns
returns c = c.mark_pages.ensures (λ (o : ℕ). not (eqb o c.args.owner)) (λ o r lt h. search rules)
