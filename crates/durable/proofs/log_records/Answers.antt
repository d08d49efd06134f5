-- `durable::log_records` meets its contract: the rows are asked one after another.
use Rattle.std.proofs.Common.{◌∙◌, rules, tests}
use Rattle.record.specs.Record.{well_formed}
use Rattle.std.proofs.lemmas.Iterator.{YieldsList-from_slice}
use Rattle.std.proofs.lemmas.Iterator.Search.{all_from_yields_List}
use Rattle.durable.proofs.Laws.{every_listed}
use Rattle.durable.proofs.log_records.Goals as goal

pub returns : goal.returns
returns c =
    let a = c.args in
    all_from_yields_List (well_formed a.size a.pages) _ _ _ c.all.ensures.ran (YieldsList-from_slice a.log.now c.iter.ensures.rest) (λ x b q k. search (rules, tests))
    ∙ every_listed (well_formed a.size a.pages) a.log.now
