-- `steps::abort::abort` meets its contract: sizes and count are those of the lent bytes, and of all the areas the tables and the online rows alone change.
use Rattle.rules.specs.Areas.{areas}
use Rattle.rules.specs.Steps.{lost_now, aborted}
use Rattle.steps.proofs.abort.abort.Goals as goal

pub returns : goal.returns
unfolding aborted
returns c =
    let a = c.args in
    let s = areas a.fixed.now a.marks.now a.log.now a.stored.now a.tables.now a.online.now a.pool.now in
    let g = c.params_of-given.ensures in
    let m = c.count_of-m.ensures.0 in
    let did = c.take_back.ensures in
    let tables = rw (g.frames, m) at did.0 in
    let online = rw (g.online, m) at did.1 in
    λ i. lost_now s (tables i) (online i) s.lost.pool
