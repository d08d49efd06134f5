-- `ventarico_restart` keeps its promise: refused as `judge_restart` says, else done as `restarted` says.
use Rattle.rules.specs.Areas.{areas}
use mathlib.Core.Path.{refl, sym, ◌∙◌}
use Rattle.rules.specs.Calls.{restart_call}
use Rattle.rules.specs.Steps.{restarted}
use Rattle.rules.proofs.Ranges.{durable_sized, durable_logged, durable_log_records}
use Rattle.rules.proofs.Went.{restart_went}
use Rattle.ventarico.proofs.door.restart_call.ventarico_restart.Goals as goal

-- what the step asks for, by the tests that it passed
pub restart-requires : goal.restart-requires
restart-requires c =
    let w = restart_went (areas c.args.fixed.now c.args.marks.now c.args.log.now c.args.stored.now c.args.tables.now c.args.online.now c.args.pool.now) (sym c.judge_restart.ensures ∙ c.in-Ok.is) in
    let logged = durable_logged (areas c.args.fixed.now c.args.marks.now c.args.log.now c.args.stored.now c.args.tables.now c.args.online.now c.args.pool.now) w.0 in
    (durable_sized (areas c.args.fixed.now c.args.marks.now c.args.log.now c.args.stored.now c.args.tables.now c.args.online.now c.args.pool.now) w.0, logged.0, logged.1, durable_log_records (areas c.args.fixed.now c.args.marks.now c.args.log.now c.args.stored.now c.args.tables.now c.args.online.now c.args.pool.now) w.0, w.1)

-- a refusal: its reply, and every byte as it was
pub returns-in-Err : goal.returns-in-Err
unfolding restart_call
returns-in-Err c = rw (sym c.judge_restart.ensures ∙ c.in-Err.is) (record { reply = c.refused.ensures; lent = refl })

-- go: what the step counted and left
pub returns-in-Ok : goal.returns-in-Ok
unfolding restart_call restarted
returns-in-Ok c = rw (sym c.judge_restart.ensures ∙ c.in-Ok.is) (record { reply = c.done.ensures; lent = c.restart.ensures })
