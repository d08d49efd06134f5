use Rattle.std.proofs.Common.{◌*◌, ◌≤◌, ◌<◌, ◌≡◌, [], length, get_or, sym, arith, rules}
use borrow.Author.Tests.{ltb-true, ltb-false}
use Rattle.onlinecheck.specs.Bytes.{bounded}
use Rattle.onlinecheck.proofs.Rows.{every_at}
use Rattle.onlinecheck.proofs.Chains.{walk_fail, walk_turn, walk_less, walk_done}
use Rattle.onlinecheck.proofs.apart.chain_apart.Goals as goal
use Rattle.onlinecheck.proofs.apart.chain_apart.Goals.{In-Some}

found : (c : In-Some) → (c.loop-row.j < length c.args.online.now) × (c.in-Some.row.now ≡ get_or c.args.online.now c.loop-row.j [])
found c = (ltb-true c.loop-row.j (length c.args.online.now) (sym c.in-Some.ensures.lookup.0), search rules)

pub take_row-requires : goal.take_row-requires
take_row-requires c =
    let f = found (goal.at.take_row-requires c).In-Some in
    let b = every_at bounded c.args.online.now c.loop-row.j f.0 c.requires.2 in
    (omega (arith, c.requires.0, c.requires.1), rw f.1 b)

pub returns-then-not-take_row : goal.returns-then-not-take_row
returns-then-not-take_row c =
    let a = c.args in
    let h = c.loop-row in
    let f = found (goal.at.returns-then-not-take_row c).In-Some in
    walk_fail a.online.now a.after.now (a.i * 64) h.j h.marks _ _ _ _ f.0 h.invariant (rw f.1 at c.take_row.ensures.0) c.if-not-take_row.true

pub loop-row-smaller : goal.loop-row-smaller
loop-row-smaller c =
    let a = c.args in
    let h = c.loop-row in
    let f = found (goal.at.loop-row-smaller c).In-Some in
    rw c.from-j.ensures (walk_less a.online.now a.after.now (a.i * 64) h.j h.marks h.marks c.take_row.result _ _ f.0 h.invariant)

pub loop-row-preserved : goal.loop-row-preserved
loop-row-preserved c =
    let a = c.args in
    let h = c.loop-row in
    let f = found (goal.at.loop-row-preserved c).In-Some in
    rw c.from-j.ensures (walk_turn a.online.now a.after.now (a.i * 64) h.j h.marks _ _ _ _ f.0 h.invariant (rw f.1 at c.take_row.ensures.0) c.if-not-take_row.false (rw f.1 at c.take_row.ensures.1))

pub returns : goal.returns
returns c =
    let a = c.args in
    let h = c.loop-row in
    let l : length a.online.now ≤ h.j = ltb-false h.j (length a.online.now) (sym c.in_default.ensures.lookup.0) in
    walk_done a.online.now a.after.now (a.i * 64) h.j h.marks _ _ l h.invariant
