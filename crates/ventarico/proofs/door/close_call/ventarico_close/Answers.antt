-- `ventarico_close` keeps its promise: refused as `judge_close` says, else done as `closed` says.
use Rattle.rules.specs.Areas.{areas}
use mathlib.Core.Path.{refl, sym, ◌∙◌}
use Rattle.rules.specs.Calls.{close_call}
use Rattle.rules.specs.Steps.{closed}
use Rattle.sound.proofs.Laws.{sound_shaped, sound_logged}
use Rattle.rules.proofs.Went.{close_went}
use Rattle.ventarico.proofs.door.close_call.ventarico_close.Goals as goal

-- what the step asks for, by the tests that it passed
pub close-requires : goal.close-requires
close-requires c =
    let w = close_went (areas c.args.fixed.now c.args.marks.now c.args.log.now c.args.stored.now c.args.tables.now c.args.online.now c.args.pool.now) (sym c.judge_close.ensures ∙ c.in-Ok.is) in
    (sound_shaped (areas c.args.fixed.now c.args.marks.now c.args.log.now c.args.stored.now c.args.tables.now c.args.online.now c.args.pool.now) w, sound_logged (areas c.args.fixed.now c.args.marks.now c.args.log.now c.args.stored.now c.args.tables.now c.args.online.now c.args.pool.now) w)

-- a refusal: its reply, and every byte as it was
pub returns-in-Err : goal.returns-in-Err
unfolding close_call
returns-in-Err c = rw (sym c.judge_close.ensures ∙ c.in-Err.is) (record { reply = c.refused.ensures; lent = refl })

-- go: what the step counted and left
pub returns-in-Ok : goal.returns-in-Ok
unfolding close_call closed
returns-in-Ok c = rw (sym c.judge_close.ensures ∙ c.in-Ok.is) (record { reply = c.done.ensures; lent = c.close.ensures })
