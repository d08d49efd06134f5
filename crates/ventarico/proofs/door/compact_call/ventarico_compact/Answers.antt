-- `ventarico_compact` keeps its promise: refused as `judge_compact` says, else not due, or compacted.
use Rattle.rules.specs.Areas.{areas}
use mathlib.Core.Path.{refl, sym, ◌∙◌}
use Rattle.rules.specs.Calls.{compact_call}
use Rattle.rules.specs.Steps.{compact_step, compacted}
use Rattle.sound.proofs.Laws.{sound_shaped}
use Rattle.rules.proofs.Went.{compact_went}
use Rattle.ventarico.proofs.door.compact_call.ventarico_compact.Goals as goal

-- what the step asks for, by the tests that it passed
pub compact_step-step-requires : goal.compact_step-step-requires
compact_step-step-requires c =
    let a = c.args in
    let w = compact_went (areas c.args.fixed.now c.args.marks.now c.args.log.now c.args.stored.now c.args.tables.now c.args.online.now c.args.pool.now) a.page a.min_del a.max_age (sym c.judge_compact.ensures ∙ c.in-Ok.is) in
    (sound_shaped (areas c.args.fixed.now c.args.marks.now c.args.log.now c.args.stored.now c.args.tables.now c.args.online.now c.args.pool.now) w.0, w.1)

-- no step, so compact was not due
pub returns-in-None : goal.returns-in-None
unfolding compact_call compact_step
returns-in-None c =
    let did = rw (c.from.ensures, c.from-in-Ok.ensures) at c.in-None.ensures in
    rw ((sym c.judge_compact.ensures ∙ c.in-Ok.is), sym did.due) (record { reply = c.not_due.ensures; lent = rw (sym did.due) at did.lent })

-- a refusal: its reply, and every byte as it was
pub returns-in-Err : goal.returns-in-Err
unfolding compact_call
returns-in-Err c = rw (sym c.judge_compact.ensures ∙ c.in-Err.is) (record { reply = c.refused.ensures; lent = refl })

-- a step, so it was due
pub returns-in-Some : goal.returns-in-Some
unfolding compact_call compact_step compacted
returns-in-Some c =
    let did = rw (c.from.ensures, c.from-in-Ok.ensures) at c.in-Some.ensures in
    let compacting = rw (sym did.due) at did in
    rw ((sym c.judge_compact.ensures ∙ c.in-Ok.is), sym did.due)
    (record { reply = rw (compacting.reads, compacting.writes) at c.done.ensures; lent = compacting.lent })
