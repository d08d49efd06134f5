use Rattle.std.proofs.Common.{◌≡◌, cond, ◌∙◌, rules, get_or, []}
use Rattle.record.specs.Record.{apply, chosen}
use Rattle.record.proofs.Listed.{when_so, when_not}
use Rattle.apply.proofs.Laws.{fold_turn, fold_done}
use Rattle.apply.proofs.fold.Goals as goal
use Rattle.apply.proofs.fold.Goals.{then-is_chosen, else-is_chosen}

pub loop-row-preserved : goal.loop-row-preserved
loop-row-preserved c =
    let a = c.args in
    let r = get_or a.online.now c.loop-row.row-index [] in
    let one : c.if-is_chosen.g ≡ cond (chosen a.only a.p.0 r) (apply r c.loop-row.g) c.loop-row.g =
    elim c.if-is_chosen.branch [
      | then-is_chosen w ↦ when_so _ _ _ _ _ c.is_chosen.ensures w.if-is_chosen.true (w.g-is ∙ w.apply_row.ensures)
      | else-is_chosen w ↦ when_not _ _ _ _ _ c.is_chosen.ensures w.if-is_chosen.false w.g-is
    ] in
    (fold_turn (chosen a.only a.p.0) a.online.now c.loop-row.row-index _ _ _ c.loop-row-test.true one c.loop-row.invariant.0, search rules)

pub returns : goal.returns
returns c =
    let a = c.args in
    fold_done (chosen a.only a.p.0) a.online.now c.loop-row.row-index _ _ c.loop-row-test.false c.loop-row.invariant.0
