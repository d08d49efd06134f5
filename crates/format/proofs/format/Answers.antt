-- Five calls, one for each area that is written.
use Rattle.format.proofs.Laws.{all_made}
use Rattle.format.proofs.format.Goals as goal

pub returns : goal.returns
returns c =
    let a = c.args in
    all_made a.fixed.now a.marks.now a.log.now a.stored.now a.tables.now a.online.now a.pool.now
    _ _ _ _ _ a.g a.last
    c.write_fixed.ensures
    c.write_marks.ensures
    c.wipe.ensures
    c.wipe-2.ensures
    c.wipe-3.ensures
