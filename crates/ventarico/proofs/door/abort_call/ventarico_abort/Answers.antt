-- `ventarico_abort` keeps its promise: refused as `judge_abort` says, else done as `aborted` says.
use Rattle.rules.specs.Areas.{areas}
use mathlib.Core.Path.{refl, sym, ◌∙◌}
use native.Mathlib.Omega.{arith}
use Rattle.rules.specs.Calls.{abort_call}
use Rattle.rules.specs.Steps.{aborted}
use Rattle.sound.proofs.Laws.{sound_shaped}
use Rattle.rules.proofs.Verdicts.{number_most}
use Rattle.rules.proofs.Went.{abort_went}
use Rattle.ventarico.proofs.door.abort_call.ventarico_abort.Goals as goal

pub overflow_cast-owner : goal.overflow_cast-owner
overflow_cast-owner c =
    let x = c.args.number in
    let w = abort_went (areas c.args.fixed.now c.args.marks.now c.args.log.now c.args.stored.now c.args.tables.now c.args.online.now c.args.pool.now) x (sym c.judge_abort.ensures ∙ c.in-Ok.is) in
    omega (arith, number_most x w.1)

-- what the step asks for, by the tests that it passed
pub abort-requires : goal.abort-requires
abort-requires c =
    let x = c.args.number in
    let w = abort_went (areas c.args.fixed.now c.args.marks.now c.args.log.now c.args.stored.now c.args.tables.now c.args.online.now c.args.pool.now) x (sym c.judge_abort.ensures ∙ c.in-Ok.is) in
    (sound_shaped (areas c.args.fixed.now c.args.marks.now c.args.log.now c.args.stored.now c.args.tables.now c.args.online.now c.args.pool.now) w.0, number_most x w.1)

-- a refusal: its reply, and every byte as it was
pub returns-in-Err : goal.returns-in-Err
unfolding abort_call
returns-in-Err c = rw (sym c.judge_abort.ensures ∙ c.in-Err.is) (record { reply = c.refused.ensures; lent = refl })

-- go: what the step counted and left
pub returns-in-Ok : goal.returns-in-Ok
unfolding abort_call aborted
returns-in-Ok c = rw (sym c.judge_abort.ensures ∙ c.in-Ok.is) (record { reply = c.done.ensures; lent = c.abort.ensures })
