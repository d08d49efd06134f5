-- The rows that stay stand at the front, and after them zeros.
use mathlib.Core.Path.{◌∙◌}
use borrow.Author.Rules.{rules}
use native.Mathlib.Omega.{arith}
use Rattle.table.specs.Stays.{gone_of, stays_of}
use Rattle.table.proofs.Laws.{stay_before, stay_behind}
use Rattle.table.proofs.Turns.{closed_up, cleared}
use Rattle.table.proofs.delete.Goals as goal

pub squeeze-k-requires : goal.squeeze-k-requires
squeeze-k-requires c =
    let a = c.args in
    (omega arith, search rules, stay_before (gone_of a.of a.owner) a.m a.t.now a.from (omega arith) c.requires.4)

pub returns : goal.returns
returns c =
    let a = c.args in
    let q = c.squeeze-k in
    let u = c.close_up-left in
    let e = closed_up (stays_of a.of a.owner) a.to a.m a.t.now q.new.t u.new.t q.result u.result (stay_behind (gone_of a.of a.owner) a.m a.t.now a.to c.requires.3 c.requires.5) c.requires.3 q.ensures.0 q.ensures.1 q.ensures.3 u.ensures.0 u.ensures.1 in
    (cleared 19 a.size u.result _ a.t.now u.new.t _ c.requires.0 (u.auto.t ∙ q.auto.t) e.1 e.0 c.clear.ensures, e.1)
