-- `steps::begin::begin` meets its contract: of all the areas the tables alone change.
use Rattle.rules.specs.Areas.{areas}
use Rattle.rules.specs.Steps.{lost_now, begun}
use Rattle.steps.proofs.begin.begin.Goals as goal

pub returns : goal.returns
unfolding begun
returns c =
    let a = c.args in
    let s = areas a.fixed.now a.marks.now a.log.now a.stored.now a.tables.now a.online.now a.pool.now in
    λ i. lost_now s (c.make_live.ensures i) s.lost.online s.lost.pool
