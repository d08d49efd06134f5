-- `ventarico_read` keeps its promise: refused as `judge_read` says, else done as `read_step` says.
use Rattle.rules.specs.Areas.{areas}
use mathlib.Core.Path.{refl, sym, ◌∙◌}
use lib.ListN.{length}
use Rattle.rules.specs.Calls.{read_call}
use Rattle.rules.specs.Steps.{read_step}
use Rattle.sound.proofs.Laws.{sound_shaped}
use Rattle.rules.proofs.Went.{read_went}
use Rattle.ventarico.proofs.door.read_call.ventarico_read.Goals as goal

-- what the step asks for, by the tests that it passed
pub read-reads-requires : goal.read-reads-requires
read-reads-requires c =
    let a = c.args in
    let w = read_went (areas c.args.fixed.now c.args.marks.now c.args.log.now c.args.stored.now c.args.tables.now c.args.online.now c.args.pool.now) (length a.buffer.now) a.number a.page a.offset a.length (sym c.judge_read.ensures ∙ c.in-Ok.is) in
    (sound_shaped (areas c.args.fixed.now c.args.marks.now c.args.log.now c.args.stored.now c.args.tables.now c.args.online.now c.args.pool.now) w.0, w.1, w.2, w.3)

-- a refusal: its reply, and every byte as it was
pub returns-in-Err : goal.returns-in-Err
unfolding read_call
returns-in-Err c = rw (sym c.judge_read.ensures ∙ c.in-Err.is) (record { reply = c.refused.ensures; lent = refl }, refl)

-- go: what the step counted and left
pub returns-in-Ok : goal.returns-in-Ok
unfolding read_call read_step
returns-in-Ok c =
    let did = c.read-reads.ensures in
    rw (sym c.judge_read.ensures ∙ c.in-Ok.is)
    (record { reply = rw did.reads at c.done.ensures; lent = did.lent }, did.buffer)
