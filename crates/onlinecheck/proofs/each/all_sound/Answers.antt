-- `onlinecheck::each::all_sound` meets its contract: the rows are asked one after another.
use Rattle.std.proofs.Common.{◌∙◌, rules, tests}
use Rattle.std.proofs.lemmas.Iterator.{YieldsList-from_slice}
use Rattle.std.proofs.lemmas.Iterator.Search.{all_from_yields_List}
use Rattle.durable.proofs.Laws.{every_listed}
use Rattle.onlinecheck.specs.Online.{row_test}
use Rattle.onlinecheck.proofs.each.all_sound.Goals as goal

pub returns : goal.returns
returns c =
    let a = c.args in
    all_from_yields_List (row_test a.tables.now a.log.now a.marks.now a.size a.pages a.last a.first.0) _ _ _ c.all.ensures.ran (YieldsList-from_slice a.online.now c.iter.ensures.rest) (λ x b q k. search (rules, tests))
    ∙ every_listed (row_test a.tables.now a.log.now a.marks.now a.size a.pages a.last a.first.0) a.online.now
