-- `checkpoint::marked_step` meets its contract: a page without a mark has no committed row, so the step does nothing.
use Rattle.rules.specs.Areas.{areas}
use Rattle.checkpoint.proofs.Laws.{step_unmarked}
use Rattle.checkpoint.proofs.marked_step.Goals as goal

pub returns-then-seen-at-ne1 : goal.returns-then-seen-at-ne1
returns-then-seen-at-ne1 c =
    let a = c.args in
    let e =
    step_unmarked a.min_del a.max_age a.seen.now (areas a.fixed.now a.marks.now a.log.now a.stored.now a.tables.now a.online.now a.pool.now) a.p.0 c.requires.0 c.requires.1 c.requires.2
    c.if-seen-at-ne1.true in
    record { reads = e.0; writes = e.1.0; lent = e.1.1 }
