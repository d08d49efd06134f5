-- `ventarico_journal_play` keeps its promise: refused as judged, with every byte as it was; else restored as looked at.
use Rattle.journalplay.proofs.Judges.{ready, play_no, play_done}
use Rattle.journalplay.proofs.ventarico_journal_play.Goals as goal

pub body_of-requires : goal.body_of-requires
body_of-requires c = (ready _ _ _ _ c.in-Ok.ensures).1.long

pub restore-requires : goal.restore-requires
restore-requires c =
    let w = (ready _ _ _ _ c.in-Ok.ensures).1 in
    rw c.body_of.ensures (w.some, w.room, w.inner)

pub returns-in-Ok : goal.returns-in-Ok
returns-in-Ok c = rw c.from.ensures (play_done _ _ _ _ _ c.in-Ok.ensures (rw c.body_of.ensures at c.restore.ensures))

pub returns-in-Err : goal.returns-in-Err
returns-in-Err c = rw c.from-in-Err.ensures (play_no _ _ _ _ c.in-Err.ensures)
