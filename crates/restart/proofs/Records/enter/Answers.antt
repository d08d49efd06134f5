use Rattle.std.proofs.Common.{arith}
use Rattle.restart.proofs.Laws.{row_paged}
use Rattle.restart.proofs.Turns.{enter_room, enter_turn, enter_done}
use Rattle.restart.proofs.Records.enter.Goals as goal

pub enter_one-m-requires : goal.enter_one-m-requires
enter_one-m-requires c =
    let a = c.args.self.now in
    let p = c.requires in
    let l = c.loop-i in (
      row_paged _ _ _ a.paged c.loop-i-test.true,
      p.0,
      omega arith,
      rw (← c.number.ensures) at (enter_room a.marks.now a.pages a.first.0 a.rows.now c.args.frames _ _ _ _ l.m l.i l.invariant c.loop-i-test.true (omega arith)),
    )

pub loop-i-preserved : goal.loop-i-preserved
loop-i-preserved c =
    let a = c.args.self.now in
    let l = c.loop-i in
    let e = rw c.number.ensures at c.enter_one-m.ensures.entered in
    enter_turn a.marks.now a.pages a.first.0 a.rows.now c.args.frames _ _ _ _ l.m l.i l.invariant c.loop-i-test.true (omega arith) _ _ _ c.enter_one-m.ensures.width e.0 e.1 e.2

pub returns : goal.returns
returns c =
    let a = c.args.self.now in
    enter_done a.marks.now a.pages a.first.0 a.rows.now c.args.frames _ _ _ _ c.loop-i.m c.loop-i.i c.loop-i.invariant c.loop-i-test.false
