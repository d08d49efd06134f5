-- `ventarico_evict` keeps its promise: refused as `judge_evict` says, else done as `evicted` says.
use Rattle.rules.specs.Areas.{areas}
use mathlib.Core.Path.{refl, sym, ◌∙◌}
use Rattle.rules.specs.Calls.{evict_call}
use Rattle.rules.specs.Steps.{evicted}
use Rattle.sound.proofs.Laws.{sound_shaped}
use Rattle.rules.proofs.Went.{evict_went}
use Rattle.ventarico.proofs.door.evict_call.ventarico_evict.Goals as goal

-- what the step asks for, by the tests that it passed
pub evict-requires : goal.evict-requires
evict-requires c =
    let w = evict_went (areas c.args.fixed.now c.args.marks.now c.args.log.now c.args.stored.now c.args.tables.now c.args.online.now c.args.pool.now) c.args.page (sym c.judge_evict.ensures ∙ c.in-Ok.is) in
    (sound_shaped (areas c.args.fixed.now c.args.marks.now c.args.log.now c.args.stored.now c.args.tables.now c.args.online.now c.args.pool.now) w.0, w.1, w.2)

-- a refusal: its reply, and every byte as it was
pub returns-in-Err : goal.returns-in-Err
unfolding evict_call
returns-in-Err c = rw (sym c.judge_evict.ensures ∙ c.in-Err.is) (record { reply = c.refused.ensures; lent = refl })

-- go: what the step counted and left
pub returns-in-Ok : goal.returns-in-Ok
unfolding evict_call evicted
returns-in-Ok c = rw (sym c.judge_evict.ensures ∙ c.in-Ok.is) (record { reply = c.done.ensures; lent = c.evict.ensures })
