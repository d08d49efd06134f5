-- `fetch::fetch` meets its contract: a page in a frame stays, any other is brought into the frame for it.
use Rattle.rules.specs.Areas.{areas}
use Rattle.fetch.proofs.Laws.{entry_in, frame_in, frame_within, fetched_there, fetched_new}
use Rattle.fetch.proofs.fetch.Goals as goal

pub returns-in-Some : goal.returns-in-Some
returns-in-Some c =
    let a = c.args in
    let h = c.requires in
    fetched_there (areas a.fixed.now a.marks.now a.log.now a.stored.now a.tables.now a.online.now a.pool.now) a.p.0 _ _ h.0 h.1 (entry_in (areas a.fixed.now a.marks.now a.log.now a.stored.now a.tables.now a.online.now a.pool.now) a.p.0 _ _ c.params_of-given.ensures c.entry_of.ensures) c.in-Some.ensures.0 c.in-Some.ensures.1

pub bring_in-requires : goal.bring_in-requires
bring_in-requires c =
    let a = c.args in
    let h = c.requires in
    (h.0, h.1, frame_within (areas a.fixed.now a.marks.now a.log.now a.stored.now a.tables.now a.online.now a.pool.now) _ _ _ h.0 h.2 c.params_of-given.ensures c.frame_for-f.ensures.0)

pub returns : goal.returns
returns c =
    let a = c.args in
    let h = c.requires in
    fetched_new (areas a.fixed.now a.marks.now a.log.now a.stored.now a.tables.now a.online.now a.pool.now) a.p.0 _ _ h.0
    (entry_in (areas a.fixed.now a.marks.now a.log.now a.stored.now a.tables.now a.online.now a.pool.now) a.p.0 _ _ c.params_of-given.ensures c.entry_of.ensures)
    c.in_default.ensures
    (frame_in (areas a.fixed.now a.marks.now a.log.now a.stored.now a.tables.now a.online.now a.pool.now) _ _ _ h.2 c.params_of-given.ensures c.frame_for-f.ensures.0)
    c.bring_in.ensures
