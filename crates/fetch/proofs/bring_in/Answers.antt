-- `fetch::bring_in` meets its contract: the page is rebuilt in the frame, then the entries name it.
use borrow.Author.Rules.{rules}
use Rattle.rules.specs.Areas.{areas}
use Rattle.fetch.proofs.Laws.{fill_fits, brought}
use Rattle.fetch.proofs.bring_in.Goals as goal

pub fill_frame-requires : goal.fill_frame-requires
fill_frame-requires c =
    let a = c.args in
    let h = c.requires in
    fill_fits (areas a.fixed.now a.marks.now a.log.now a.stored.now a.tables.now a.online.now a.pool.now) a.p.0 a.f.0 _ h.0 h.1 h.2 c.params_of-given.ensures.size

pub returns : goal.returns
returns c =
    let a = c.args in
    brought (areas a.fixed.now a.marks.now a.log.now a.stored.now a.tables.now a.online.now a.pool.now) a.p.0 a.f.0 _ _ _ _ _ c.params_of-given.ensures (search rules) c.entry_of.ensures c.take_frame.ensures c.fill_frame.ensures
