-- `commit::commit` meets its contract: every area is that of the step.
use Rattle.commit.proofs.Laws.{lent_committed}
use Rattle.commit.proofs.commit.Goals as goal

pub returns : goal.returns
returns c =
    let a = c.args in
    let rows = c.commit_rows-k.ensures in
    lent_committed a.fixed.now a.marks.now a.log.now a.stored.now a.tables.now a.online.now a.pool.now a.owner _ _ _ _ _ _ _
    c.count_of-m.ensures.0 c.requires.0.sized.log c.requires.0.sized.online c.requires.5 c.requires.6 rows.0 rows.1 rows.2
    c.count_up.ensures c.end.ensures c.writes.ensures
