-- The call's result is the definition's, page by page.
use Rattle.std.proofs.Common.{◌+◌, ◌*◌, nat_lt, rules, tests}
use Rattle.std.proofs.lemmas.Iterator.{YieldsList-from_slice}
use Rattle.std.proofs.lemmas.Iterator.Search.{any_from_yields_List}
use Rattle.journal.specs.Writing.{any_past}
use Rattle.journalwrite.proofs.list.any_past.Goals as goal

pub returns : goal.returns
unfolding any_past
returns c = any_from_yields_List (λ p. nat_lt c.args.lent ((p + 1) * c.args.size)) _ _ _ c.any.ensures.ran (YieldsList-from_slice c.args.list.now cc) (λ x b q k. search (rules, tests))
