-- `closing::close` meets its contract: the log and the marks are those of the step.
use Prim.Native.Nat.{ℕ}
use mathlib.Core.Path.{ap, ◌∙◌}
use Rattle.record.specs.Rows.{rows}
use Rattle.closing.proofs.Laws.{lent_closed}
use Rattle.closing.proofs.close.Goals as goal

pub returns : goal.returns
returns c =
    let a = c.args in
    lent_closed a.fixed.now a.marks.now a.log.now a.stored.now a.tables.now a.online.now a.pool.now _ _ _ _ _
    (c.first_rows-rows.ensures ∙ ap (λ (k : ℕ). rows 19 k a.online.now 0) c.count_of.ensures.0)
    c.smallest_committed-x.ensures
    c.dropped-d.ensures
    c.close_log.ensures
    c.close_marks.ensures
