use Rattle.onlinecheck.proofs.Bytes.{take_fail, take_turn, take_done}
use Rattle.onlinecheck.proofs.apart.take_bytes.Goals as goal

pub returns-then-base-mark : goal.returns-then-base-mark
returns-then-base-mark c =
    let a = c.args in
    let h = c.loop-mark in
    take_fail a.base a.mine a.bytes.now h.mark-index h.bytes _ _ c.loop-mark-test.true c.if-base-mark.true h.invariant

pub loop-mark-preserved : goal.loop-mark-preserved
loop-mark-preserved c =
    let a = c.args in
    let h = c.loop-mark in
    take_turn a.base a.mine a.bytes.now h.mark-index h.bytes c.loop-mark-test.true c.if-base-mark.false h.invariant

pub returns : goal.returns
returns c =
    let a = c.args in
    let h = c.loop-mark in
    take_done a.base a.mine a.bytes.now h.mark-index h.bytes c.loop-mark-test.false h.invariant
