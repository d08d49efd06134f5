-- `onlinecheck::sound_rows` meets its contract: the rows one by one, then the bytes past them.
use mathlib.Core.Path.{◌∙◌}
use Rattle.rules.specs.Sound.{zeros}
use Rattle.onlinecheck.proofs.Laws.{rows_each}
use Rattle.onlinecheck.proofs.sound_rows.Goals as goal

pub returns-then-all_sound : goal.returns-then-all_sound
returns-then-all_sound c =
    let a = c.args in
    c.all_zero.ensures
    ∙ (rw c.if-all_sound.true at (rows_each a.tables.now a.log.now a.marks.now a.size a.pages a.last a.first.0 a.online.now c.all_sound.result (zeros a.behind.now) c.all_sound.ensures))

pub returns-else-all_sound : goal.returns-else-all_sound
returns-else-all_sound c =
    let a = c.args in
    c.if-all_sound.false
    ∙ rw c.if-all_sound.false at (rows_each a.tables.now a.log.now a.marks.now a.size a.pages a.last a.first.0 a.online.now c.all_sound.result (zeros a.behind.now) c.all_sound.ensures)
