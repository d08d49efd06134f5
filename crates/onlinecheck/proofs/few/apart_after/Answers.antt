-- `onlinecheck::few::apart_after` meets its contract: each later row is asked, and a committed row is apart from all.
use Rattle.std.proofs.Common.{◌∙◌, rules, tests}
use Rattle.std.proofs.lemmas.Iterator.{YieldsList-from_slice}
use Rattle.std.proofs.lemmas.Iterator.Search.{all_from_yields_List}
use Rattle.durable.proofs.Laws.{every_listed}
use Rattle.rules.specs.Sound.{apart}
use Rattle.onlinecheck.proofs.Laws.{apart_all}
use Rattle.onlinecheck.proofs.few.apart_after.Goals as goal

pub returns-then-x-eq0 : goal.returns-then-x-eq0
returns-then-x-eq0 c =
    let a = c.args in
    apart_all a.row.now _ c.owner_of-x.ensures c.if-x-eq0.true a.later.now

pub returns : goal.returns
returns c =
    let a = c.args in
    all_from_yields_List (apart a.row.now) _ _ _ c.all.ensures.ran (YieldsList-from_slice a.later.now c.iter.ensures.rest) (λ x b q k. search (rules, tests))
    ∙ every_listed (apart a.row.now) a.later.now
