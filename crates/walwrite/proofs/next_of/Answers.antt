use Rattle.std.proofs.Common.{rules, tests}
use Rattle.std.proofs.lemmas.Iterator.{YieldsList-from_slice}
use Rattle.std.proofs.lemmas.Iterator.Search.{position_from_yields_List}
use Rattle.record.specs.Record.{on_page}
use Rattle.walwrite.proofs.Laws.{next_is}
use Rattle.walwrite.proofs.next_of.Goals as goal

pub returns : goal.returns
returns c =
    let a = c.args in
    next_is a.p.0 a.online.now _
    (position_from_yields_List (on_page a.p.0) _ _ _ c.position.ensures.ran (YieldsList-from_slice a.online.now c.iter.ensures.rest) (λ x t q k. search (rules, tests)))
