-- `onlinecheck::owned::is_owned` meets its contract: the row's owner and number are the ones read, and the owner's live byte.
use Prim.Native.Nat.{◌+◌}
use native.Mathlib.Omega.{arith}
use Rattle.onlinecheck.proofs.Laws.{owned_committed, owned_past, owned_live}
use Rattle.onlinecheck.proofs.owned.is_owned.Goals as goal

pub returns-then-x-eq0 : goal.returns-then-x-eq0
returns-then-x-eq0 c =
    let a = c.args in
    owned_committed a.tables.now _ a.row.now _ _ c.owner_of-x.ensures c.number_of-k.ensures.0 c.if-x-eq0.true

pub returns-then-x-gt32 : goal.returns-then-x-gt32
returns-then-x-gt32 c =
    let a = c.args in
    owned_past a.tables.now _ a.row.now _ c.owner_of-x.ensures c.if-x-gt32.true

pub returns : goal.returns
returns c =
    let a = c.args in
    owned_live a.tables.now a.last a.row.now c.owner_of-x.result _ (2 + c.from-at.result)
    c.owner_of-x.ensures
    c.number_of-k.ensures.0
    c.if-x-eq0.false
    c.if-x-gt32.false
    (omega arith)
