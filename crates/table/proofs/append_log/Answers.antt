use Rattle.table.proofs.Turns.{log_room, log_more, log_all}
use Rattle.table.proofs.append_log.Goals as goal

pub log_row-k-requires : goal.log_row-k-requires
log_row-k-requires c = log_room _ _ _ _ _ _ _ c.loop-row.invariant c.requires c.loop-row-test.true

pub loop-row-preserved : goal.loop-row-preserved
loop-row-preserved c = log_more _ _ _ _ _ _ _ _ _ c.loop-row.invariant (c.told-online c.loop-row.row-index c.loop-row-test.true) c.requires c.loop-row-test.true c.log_row-k.ensures.0 c.log_row-k.ensures.1

pub returns : goal.returns
returns c = log_all _ _ _ _ _ _ _ c.loop-row.invariant c.loop-row-test.false
