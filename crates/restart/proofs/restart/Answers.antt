-- Both tables are cleared, and what enters is entered.
use Rattle.rules.specs.Areas.{areas}
use Rattle.restart.proofs.Turns.{restart_asks, restart_made}
use Rattle.restart.proofs.restart.Goals as goal

pub enter_all-requires : goal.enter_all-requires
enter_all-requires c =
    let a = c.args in
    restart_asks (areas a.fixed.now a.marks.now a.log.now a.stored.now a.tables.now a.online.now a.pool.now) _ _ c.requires
    c.wipe.ensures
    c.wipe-2.ensures

pub returns : goal.returns
returns c =
    let a = c.args in
    restart_made (areas a.fixed.now a.marks.now a.log.now a.stored.now a.tables.now a.online.now a.pool.now) _ _ _ _ c.requires
    c.wipe.ensures
    c.wipe-2.ensures
    c.enter_all.ensures.0
    c.enter_all.ensures.1
