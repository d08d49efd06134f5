-- `checkpoint::checkpoint` meets its contract: the marks are those of the committed rows, and close comes after the last compaction.
use Rattle.rules.specs.Areas.{areas}
use Rattle.checkpoint.proofs.Laws.{noted_all, after_all}
use Rattle.checkpoint.proofs.checkpoint.Goals as goal

pub compact_all-d-requires : goal.compact_all-d-requires
compact_all-d-requires c =
    let a = c.args in
    let k = c.mark_committed in
    (c.requires.0, c.requires.1, noted_all k.new.seen (areas a.fixed.now a.marks.now a.log.now a.stored.now a.tables.now a.online.now a.pool.now) _ c.count_of-m.ensures.0 (rw c.first_rows.ensures at k.ensures))

pub returns : goal.returns
returns c =
    let e = after_all _ _ _ _ _ _ _ c.compact_all-d.ensures c.close.ensures in
    record { reads = e.0; writes = e.1.0; lent = e.1.1 }
