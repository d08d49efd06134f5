-- `steps::evict::evict` meets its contract: the frames are those of the parameters, and of all the areas the tables alone change.
use Rattle.rules.specs.Areas.{areas}
use Rattle.rules.specs.Steps.{lost_now, evicted}
use Rattle.steps.proofs.evict.evict.Goals as goal

pub returns : goal.returns
unfolding evicted
returns c =
    let a = c.args in
    let s = areas a.fixed.now a.marks.now a.log.now a.stored.now a.tables.now a.online.now a.pool.now in
    let tables = rw c.params_of-given.ensures.frames at c.vacate.ensures in
    λ i. lost_now s (tables i) s.lost.online s.lost.pool
