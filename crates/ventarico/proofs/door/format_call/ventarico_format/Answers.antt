-- `ventarico_format` keeps its promise: refused as `judge_format` says, else done as `formatted` says.
use Rattle.rules.specs.Lent.{given}
use Rattle.rules.specs.Areas.{areas}
use mathlib.Core.Path.{refl, sym, ◌∙◌}
use mathlib.Core.Bool.{true}
use Rattle.rules.specs.Calls.{format_call}
use Rattle.rules.specs.Steps.{formatted}
use Rattle.rules.proofs.Ranges.{ranged, lengths_marks}
use Rattle.rules.proofs.Went.{format_went}
use Rattle.ventarico.proofs.door.format_call.ventarico_format.Goals as goal

-- what the step asks for, by the tests that it passed
pub format-requires : goal.format-requires
format-requires c =
    let a = c.args in
    let judged = rw (c.from.ensures, c.from-2.ensures, c.from-3.ensures, c.from-4.ensures, c.from-5.ensures) at c.judge_format.ensures in
    let w = format_went (areas c.args.fixed.now c.args.marks.now c.args.log.now c.args.stored.now c.args.tables.now c.args.online.now c.args.pool.now) ((given c.args.page_size c.args.pages c.args.frames c.args.online_size c.args.log_size)) a.last (sym judged ∙ c.in-Ok.is) in rw c.from-2.ensures (
      w.1,
      (lengths_marks (areas c.args.fixed.now c.args.marks.now c.args.log.now c.args.stored.now c.args.tables.now c.args.online.now c.args.pool.now) ((given c.args.page_size c.args.pages c.args.frames c.args.online_size c.args.log_size)) {r = true} (sym w.2) refl).0,
      (ranged ((given c.args.page_size c.args.pages c.args.frames c.args.online_size c.args.log_size)) w.0).pages_most,
    )

-- a refusal: its reply, and every byte as it was
pub returns-in-Err : goal.returns-in-Err
unfolding format_call
returns-in-Err c =
    let judged = rw (c.from.ensures, c.from-2.ensures, c.from-3.ensures, c.from-4.ensures, c.from-5.ensures) at c.judge_format.ensures in
    rw (sym judged ∙ c.in-Err.is) (record { reply = c.refused.ensures; lent = refl })

-- go: what the step counted and left
pub returns-in-Ok : goal.returns-in-Ok
unfolding format_call formatted
returns-in-Ok c =
    let judged = rw (c.from.ensures, c.from-2.ensures, c.from-3.ensures, c.from-4.ensures, c.from-5.ensures) at c.judge_format.ensures in
    let did = rw (c.from.ensures, c.from-2.ensures, c.from-3.ensures, c.from-4.ensures, c.from-5.ensures, c.from-in-Ok.ensures) at c.format.ensures in
    rw (sym judged ∙ c.in-Ok.is)
    (record { reply = c.done.ensures; lent = did })
