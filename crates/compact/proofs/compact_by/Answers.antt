-- `compact::compact_by` meets its contract: what was read and planned is what the step says.
use Rattle.rules.specs.Areas.{areas}
use Rattle.compact.proofs.Laws.{planned_seen, page_there, tables_there, reads_done, writes_done, lent_done}
use Rattle.compact.proofs.compact_by.Goals as goal

pub write_page-requires : goal.write_page-requires
write_page-requires c =
    let a = c.args in
    let m = c.params_of-given in
    let n = c.count_of-m in
    let k = c.plan_for-plan in
    let q = planned_seen a.tables.now a.online.now a.p.0 _ n.result a.s k.result n.ensures.0 c.requires.2 k.ensures in
    page_there a.fixed.now a.marks.now a.log.now a.stored.now a.tables.now a.online.now a.pool.now a.p.0 m.result n.result k.result m.ensures n.ensures.0 q a.s c.requires.2 c.requires.0 c.requires.1

pub compact_lost-requires : goal.compact_lost-requires
compact_lost-requires c =
    let a = c.args in
    let m = c.params_of-given in
    let n = c.count_of-m in
    let k = c.plan_for-plan in
    let q = planned_seen a.tables.now a.online.now a.p.0 _ n.result a.s k.result n.ensures.0 c.requires.2 k.ensures in
    tables_there a.fixed.now a.marks.now a.log.now a.stored.now a.tables.now a.online.now a.pool.now a.p.0 m.result n.result k.result m.ensures n.ensures.0 q a.s c.requires.2 c.requires.0 c.requires.1

pub returns : goal.returns
returns c =
    let a = c.args in
    let m = c.params_of-given in
    let n = c.count_of-m in
    let k = c.plan_for-plan in
    let q = planned_seen a.tables.now a.online.now a.p.0 _ n.result a.s k.result n.ensures.0 c.requires.2 k.ensures in
    record {
      reads = reads_done a.fixed.now a.marks.now a.log.now a.stored.now a.tables.now a.online.now a.pool.now a.p.0 m.result n.result k.result m.ensures n.ensures.0 q;
      writes = writes_done (areas a.fixed.now a.marks.now a.log.now a.stored.now a.tables.now a.online.now a.pool.now) a.p.0;
      lent =
          lent_done a.fixed.now a.marks.now a.log.now a.stored.now a.tables.now a.online.now a.pool.now a.p.0 m.result n.result k.result m.ensures n.ensures.0 q a.s c.requires.2 _ _ _ _
          (rw c.first_rows-rows.ensures at c.write_page.ensures) c.compact_lost.ensures.0 c.compact_lost.ensures.1 c.store.ensures;
    }
