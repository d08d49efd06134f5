-- `judge::clashes_row` meets its contract: the row's fields are what the readers say.
use Rattle.std.proofs.Common.{◌∙◌}
use Rattle.judge.proofs.Laws.{clash_fields}
use Rattle.judge.proofs.clashes_row.Goals as goal

pub returns : goal.returns
returns c =
    clash_fields _ _ _ _ c.args.row.now _ _ _ _
    (c.from-owner.ensures ∙ c.owner_of.ensures) c.page_of-page.ensures.0
    c.offset_of-from.ensures.0 c.length_of.ensures.0
