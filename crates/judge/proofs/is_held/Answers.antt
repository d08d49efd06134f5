-- `judge::is_held` meets its contract: the rows are asked one after another.
use Rattle.std.proofs.Common.{◌∙◌, rules, tests}
use Rattle.std.proofs.lemmas.Iterator.{YieldsList-from_slice}
use Rattle.std.proofs.lemmas.Iterator.Search.{any_from_yields_List}
use Rattle.rules.specs.Calls.{clashes}
use Rattle.judge.proofs.Laws.{any_listed}
use Rattle.judge.proofs.is_held.Goals as goal

pub returns : goal.returns
returns c =
    let a = c.args in
    any_from_yields_List (clashes a.x a.p a.offset a.w) _ _ _ c.any.ensures.ran (YieldsList-from_slice a.online.now c.iter.ensures.rest) (λ x b q k. search (rules, tests))
    ∙ any_listed (clashes a.x a.p a.offset a.w) a.online.now
