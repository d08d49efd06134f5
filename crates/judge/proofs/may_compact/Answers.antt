-- `judge::may_compact` meets its contract: each return is the first of `compact_refusals` that holds, or none.
use mathlib.Core.Path.{refl, ap}
use mathlib.Core.Bool.{not}
use borrow.Author.Tests.{lt-ltb}
use Rattle.rules.specs.Calls.{verdict_of, compact_refusals, checkpoint_refusals}
use Rattle.rules.proofs.Verdicts.{refused, passed}
use Rattle.judge.proofs.Laws.{turned}
use Rattle.judge.proofs.may_compact.Goals as goal

pub returns-then-not-are_parameters : goal.returns-then-not-are_parameters
unfolding verdict_of compact_refusals checkpoint_refusals
returns-then-not-are_parameters c = passed _ _ _ _ (ap not (lt-ltb _ _ c.if-pages-p.false)) (refused _ _ _ (turned _ _ _ c.are_parameters.ensures (ap not c.if-not-are_parameters.true)))

pub returns : goal.returns
unfolding verdict_of compact_refusals checkpoint_refusals
returns c = passed _ _ _ _ (ap not (lt-ltb _ _ c.if-pages-p.false)) (passed _ _ _ _ (turned _ _ _ c.are_parameters.ensures (ap not c.if-not-are_parameters.false)) refl)
