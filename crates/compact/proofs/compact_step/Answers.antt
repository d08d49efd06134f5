-- `compact::compact_step` meets its contract: none where compact is not due, else what compact does.
use Rattle.rules.specs.Areas.{areas}
use Rattle.compact.proofs.Laws.{due_read, surveyed_all, step_not, step_is}
use Rattle.std.proofs.Common.{sym, ap, ◌∙◌}
use mathlib.Core.Bool.{not}
use Rattle.compact.proofs.compact_step.Goals as goal

pub returns-then-not-due_by : goal.returns-then-not-due_by
returns-then-not-due_by c =
    let a = c.args in
    let v = rw c.first_rows.ensures at c.survey-s.ensures in
    let b =
    due_read a.fixed.now a.marks.now a.log.now a.stored.now a.tables.now a.online.now a.pool.now a.p.0 a.min_del a.max_age _ _ _ _ _ _
    c.count_of-m.ensures.0 v.committed v.least c.last_of-last.ensures.0 c.saturating_sub-age.ensures c.due_by.ensures in
    let e = step_not a.min_del a.max_age a.p.0 (areas a.fixed.now a.marks.now a.log.now a.stored.now a.tables.now a.online.now a.pool.now) _ b (ap not c.if-not-due_by.true) in
    record { due = sym c.if-not-due_by.true ∙ b; reads = e.0; writes = e.1.0; lent = e.1.1 }

pub compact_by-c-requires : goal.compact_by-c-requires
compact_by-c-requires c =
    let a = c.args in
    let v = c.survey-s in
    (c.requires.0, c.requires.1, surveyed_all a.p.0 _ (areas a.fixed.now a.marks.now a.log.now a.stored.now a.tables.now a.online.now a.pool.now) v.result c.count_of-m.ensures.0 (rw c.first_rows.ensures at v.ensures))

pub returns : goal.returns
returns c =
    let a = c.args in
    let v = rw c.first_rows.ensures at c.survey-s.ensures in
    let k = c.compact_by-c in
    let b =
    due_read a.fixed.now a.marks.now a.log.now a.stored.now a.tables.now a.online.now a.pool.now a.p.0 a.min_del a.max_age _ _ _ _ _ _
    c.count_of-m.ensures.0 v.committed v.least c.last_of-last.ensures.0 c.saturating_sub-age.ensures c.due_by.ensures in
    let e = step_is a.min_del a.max_age a.p.0 _ _ (areas a.fixed.now a.marks.now a.log.now a.stored.now a.tables.now a.online.now a.pool.now) _ _ b (ap not c.if-not-due_by.false) (k.ensures.reads, (k.ensures.writes, k.ensures.lent)) in
    record { due = sym c.if-not-due_by.false ∙ b; reads = e.0; writes = e.1.0; lent = e.1.1 }
