-- `durable::sound_durable` meets its contract: once parameters and lengths are right, the marks and the log decide.
use Rattle.std.proofs.Common.{sym, ◌∙◌}
use Rattle.rules.specs.Areas.{areas_of}
use Rattle.durable.proofs.Laws.{durable_marks}
use Rattle.durable.proofs.sound_durable.Goals as goal

pub returns : goal.returns
returns c =
    let a = c.args in
    c.sound_marks.ensures
    ∙ sym (
    durable_marks (areas_of a.lent.now) c.params_of-g.result
    c.if-lent-ne-FIXED_LENGTH.false c.params_of-g.ensures
    (sym c.in_range.ensures ∙ c.if-not-in_range.false) (sym c.exact_lengths.ensures ∙ c.if-not-exact_lengths.false)
    )
