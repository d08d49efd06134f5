-- `ventarico_begin` keeps its promise: refused as `judge_begin` says, else done as `begun` says.
use Rattle.rules.specs.Areas.{areas}
use mathlib.Core.Path.{refl, sym, ◌∙◌}
use Rattle.rules.specs.Calls.{begin_call}
use Rattle.rules.specs.Steps.{begun}
use Rattle.sound.proofs.Laws.{sound_shaped}
use Rattle.rules.proofs.Went.{begin_went}
use Rattle.ventarico.proofs.door.begin_call.ventarico_begin.Goals as goal

-- what the step asks for, by the tests that it passed
pub begin-requires : goal.begin-requires
begin-requires c =
    let w = begin_went (areas c.args.fixed.now c.args.marks.now c.args.log.now c.args.stored.now c.args.tables.now c.args.online.now c.args.pool.now) c.args.number (sym c.judge_begin.ensures ∙ c.in-Ok.is) in
    (sound_shaped (areas c.args.fixed.now c.args.marks.now c.args.log.now c.args.stored.now c.args.tables.now c.args.online.now c.args.pool.now) w.0, w.1, w.2)

-- a refusal: its reply, and every byte as it was
pub returns-in-Err : goal.returns-in-Err
unfolding begin_call
returns-in-Err c = rw (sym c.judge_begin.ensures ∙ c.in-Err.is) (record { reply = c.refused.ensures; lent = refl })

-- go: what the step counted and left
pub returns-in-Ok : goal.returns-in-Ok
unfolding begin_call begun
returns-in-Ok c = rw (sym c.judge_begin.ensures ∙ c.in-Ok.is) (record { reply = c.done.ensures; lent = c.begin.ensures })
