-- `ventarico_checkpoint` keeps its promise: refused as `judge_checkpoint` says, else done as `checkpointed` says.
use Rattle.rules.specs.Areas.{areas}
use mathlib.Core.Path.{refl, sym, ◌∙◌}
use Rattle.rules.specs.Calls.{checkpoint_call}
use Rattle.rules.specs.Steps.{checkpointed}
use Rattle.checkpoint.proofs.Laws.{checkpoint_logs}
use Rattle.sound.proofs.Laws.{sound_shaped, sound_logged}
use Rattle.rules.proofs.Went.{checkpoint_went}
use Rattle.ventarico.proofs.door.checkpoint_call.ventarico_checkpoint.Goals as goal

-- what the step asks for, by the tests that it passed
pub checkpoint-c-requires : goal.checkpoint-c-requires
checkpoint-c-requires c =
    let w = checkpoint_went (areas c.args.fixed.now c.args.marks.now c.args.log.now c.args.stored.now c.args.tables.now c.args.online.now c.args.pool.now) c.args.min_del c.args.max_age (sym c.judge_checkpoint.ensures ∙ c.in-Ok.is) in
    (sound_shaped (areas c.args.fixed.now c.args.marks.now c.args.log.now c.args.stored.now c.args.tables.now c.args.online.now c.args.pool.now) w, sound_logged (areas c.args.fixed.now c.args.marks.now c.args.log.now c.args.stored.now c.args.tables.now c.args.online.now c.args.pool.now) w)

-- a refusal: its reply, and every byte as it was
pub returns-in-Err : goal.returns-in-Err
unfolding checkpoint_call
returns-in-Err c = rw (sym c.judge_checkpoint.ensures ∙ c.in-Err.is) (record { reply = c.refused.ensures; lent = refl })

-- go: what the step counted and left
pub returns-in-Ok : goal.returns-in-Ok
unfolding checkpoint_call
returns-in-Ok c =
    let did = rw (c.from.ensures, c.from-in-Ok.ensures) at c.checkpoint-c.ensures in
    let d = checkpointed c.args.min_del c.args.max_age (areas c.args.fixed.now c.args.marks.now c.args.log.now c.args.stored.now c.args.tables.now c.args.online.now c.args.pool.now) in
    let one = checkpoint_logs c.args.min_del c.args.max_age (areas c.args.fixed.now c.args.marks.now c.args.log.now c.args.stored.now c.args.tables.now c.args.online.now c.args.pool.now) in
    rw (sym c.judge_checkpoint.ensures ∙ c.in-Ok.is)
    (record { reply = (rw (did.reads, did.writes) at c.done.ensures) ∙ (λ i. record { code = 0; note = 0; reads = d.reads; writes = d.writes; logs = sym one i }); lent = did.lent })
