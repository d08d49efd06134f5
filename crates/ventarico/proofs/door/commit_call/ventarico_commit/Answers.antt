-- `ventarico_commit` keeps its promise: refused as `judge_commit` says, else done as `committing` says.
use Rattle.rules.specs.Areas.{areas}
use mathlib.Core.Path.{refl, sym, ◌∙◌}
use native.Mathlib.Omega.{arith}
use Rattle.rules.specs.Calls.{commit_call}
use Rattle.rules.specs.Steps.{committing}
use Rattle.sound.proofs.Laws.{sound_shaped}
use Rattle.rules.proofs.Verdicts.{number_most, number_least}
use Rattle.rules.proofs.Clauses.{online_zero, log_zero}
use Rattle.rules.proofs.Went.{commit_went}
use Rattle.ventarico.proofs.door.commit_call.ventarico_commit.Goals as goal

pub overflow_cast-number : goal.overflow_cast-number
overflow_cast-number c =
    let x = c.args.number in
    let w = commit_went (areas c.args.fixed.now c.args.marks.now c.args.log.now c.args.stored.now c.args.tables.now c.args.online.now c.args.pool.now) x (sym c.judge_commit.ensures ∙ c.in-Ok.is) in
    omega (arith, number_most x w.1)

-- what the step asks for, by the tests that it passed
pub commit-logs-requires : goal.commit-logs-requires
commit-logs-requires c =
    let x = c.args.number in
    let w = commit_went (areas c.args.fixed.now c.args.marks.now c.args.log.now c.args.stored.now c.args.tables.now c.args.online.now c.args.pool.now) x (sym c.judge_commit.ensures ∙ c.in-Ok.is) in
    (sound_shaped (areas c.args.fixed.now c.args.marks.now c.args.log.now c.args.stored.now c.args.tables.now c.args.online.now c.args.pool.now) w.0, number_least x w.1, number_most x w.1, w.2, w.3, online_zero (areas c.args.fixed.now c.args.marks.now c.args.log.now c.args.stored.now c.args.tables.now c.args.online.now c.args.pool.now) w.0, log_zero (areas c.args.fixed.now c.args.marks.now c.args.log.now c.args.stored.now c.args.tables.now c.args.online.now c.args.pool.now) w.0)

-- a refusal: its reply, and every byte as it was
pub returns-in-Err : goal.returns-in-Err
unfolding commit_call
returns-in-Err c = rw (sym c.judge_commit.ensures ∙ c.in-Err.is) (record { reply = c.refused.ensures; lent = refl })

-- go: what the step counted and left
pub returns-in-Ok : goal.returns-in-Ok
unfolding commit_call committing
returns-in-Ok c =
    let did = c.commit-logs.ensures in
    rw (sym c.judge_commit.ensures ∙ c.in-Ok.is)
    (record { reply = rw did.0 at c.done.ensures; lent = did.1 })
