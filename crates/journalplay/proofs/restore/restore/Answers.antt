use Rattle.std.proofs.Common.{◌≡◌, ◌+◌, ◌*◌, arith}
use Rattle.journalplay.proofs.Restores.{left_all, left_none, left_whole, left_inside, left_turn}
use Rattle.journalplay.proofs.restore.restore.Goals as goal

pub loop-i-init : goal.loop-i-init
loop-i-init c =
    let z : 0 * (c.args.size + 8) ≡ 0 = omega arith in
    rw z (left_all _ _ _ _ c.requires.1 c.requires.2)

pub restore_one-requires : goal.restore_one-requires
restore_one-requires c =
    let a = c.loop-i.invariant in
    let h = c.loop-i-test.true in
    let w = left_inside _ _ _ _ _ _ _ a h in
    (left_whole _ _ _ _ _ _ _ a h, w.0, w.1)

pub loop-i-preserved : goal.loop-i-preserved
loop-i-preserved c =
    let n : (c.loop-i.i + 1) * (c.args.size + 8) ≡ c.loop-i.i * (c.args.size + 8) + (c.args.size + 8) = omega arith in
    rw n (left_turn _ _ _ _ _ _ _ c.loop-i.invariant c.loop-i-test.true _ c.restore_one.ensures)

pub returns : goal.returns
returns c = left_none _ _ _ _ _ _ _ c.loop-i.invariant c.loop-i-test.false
