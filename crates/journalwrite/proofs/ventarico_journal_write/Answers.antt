-- `ventarico_journal_write` keeps its promise: refused as judged, with every byte as it was; else written.
use Rattle.std.proofs.Common.{sym}
use Rattle.journalwrite.proofs.Lists.{write_no, write_done}
use Rattle.journalwrite.proofs.ventarico_journal_write.Goals as goal

pub write_all-requires : goal.write_all-requires
write_all-requires c = sym c.in-Ok.ensures

pub returns-in-Ok : goal.returns-in-Ok
returns-in-Ok c = write_done _ _ _ _ _ _ _ _ (sym c.in-Ok.ensures) c.from.ensures c.write_all.ensures

pub returns-in-Err : goal.returns-in-Err
returns-in-Err c = rw c.from-in-Err.ensures (write_no _ _ _ _ _ _ _ c.in-Err.ensures)
