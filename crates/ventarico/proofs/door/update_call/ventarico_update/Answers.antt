-- `ventarico_update` keeps its promise: refused as `judge_update` says, else done as `updated` says.
use Rattle.rules.specs.Areas.{areas}
use mathlib.Core.Path.{refl, sym, ◌∙◌}
use native.Mathlib.Omega.{arith}
use Rattle.rules.specs.Calls.{update_call}
use Rattle.rules.specs.Steps.{updated}
use Rattle.sound.proofs.Laws.{sound_shaped}
use Rattle.rules.proofs.Verdicts.{number_most}
use Rattle.rules.proofs.Clauses.{online_zero}
use Rattle.rules.proofs.Went.{update_went}
use Rattle.ventarico.proofs.door.update_call.ventarico_update.Goals as goal

pub overflow_cast-kind : goal.overflow_cast-kind
overflow_cast-kind c =
    let a = c.args in
    let w = update_went (areas c.args.fixed.now c.args.marks.now c.args.log.now c.args.stored.now c.args.tables.now c.args.online.now c.args.pool.now) a.number a.page a.offset a.length a.kind a.value (sym c.judge_update.ensures ∙ c.in-Ok.is) in
    omega (arith, w.6)

pub overflow_cast-number : goal.overflow_cast-number
overflow_cast-number c =
    let a = c.args in
    let w = update_went (areas c.args.fixed.now c.args.marks.now c.args.log.now c.args.stored.now c.args.tables.now c.args.online.now c.args.pool.now) a.number a.page a.offset a.length a.kind a.value (sym c.judge_update.ensures ∙ c.in-Ok.is) in
    omega (arith, number_most a.number w.5)

-- what the step asks for, by the tests that it passed
pub update-reads-requires : goal.update-reads-requires
update-reads-requires c =
    let a = c.args in
    let w = update_went (areas c.args.fixed.now c.args.marks.now c.args.log.now c.args.stored.now c.args.tables.now c.args.online.now c.args.pool.now) a.number a.page a.offset a.length a.kind a.value (sym c.judge_update.ensures ∙ c.in-Ok.is) in
    (sound_shaped (areas c.args.fixed.now c.args.marks.now c.args.log.now c.args.stored.now c.args.tables.now c.args.online.now c.args.pool.now) w.0, w.1, w.2, w.3, w.4, online_zero (areas c.args.fixed.now c.args.marks.now c.args.log.now c.args.stored.now c.args.tables.now c.args.online.now c.args.pool.now) w.0)

-- a refusal: its reply, and every byte as it was
pub returns-in-Err : goal.returns-in-Err
unfolding update_call
returns-in-Err c = rw (sym c.judge_update.ensures ∙ c.in-Err.is) (record { reply = c.refused.ensures; lent = refl })

-- go: what the step counted and left
pub returns-in-Ok : goal.returns-in-Ok
unfolding update_call updated
returns-in-Ok c =
    let did = c.update-reads.ensures in
    rw (sym c.judge_update.ensures ∙ c.in-Ok.is)
    (record { reply = rw did.reads at c.done.ensures; lent = did.lent })
