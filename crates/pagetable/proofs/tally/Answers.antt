use Rattle.std.proofs.Common.{arith, rules}
use Rattle.pagetable.proofs.Loops.{tally_none, tally_turn, tally_pass, tally_room, tally_done}
use Rattle.pagetable.proofs.tally.Goals as goal
use Rattle.pagetable.proofs.tally.Goals.{then-k, else-k}

pub loop-b-init : goal.loop-b-init
loop-b-init g c = tally_none g.row.SHARE g.row.LEAST _

pub overflow_add-a : goal.overflow_add-a
overflow_add-a g c = omega (arith, tally_room g.row.SHARE g.row.LEAST _ _ c.loop-b.a c.from-k.result c.if-k.true (search rules) c.loop-b.invariant)

pub loop-b-preserved : goal.loop-b-preserved
loop-b-preserved g c =
    elim c.if-k.branch [
      | then-k w ↦ rw w.a-is (tally_turn g.row.SHARE g.row.LEAST _ _ _ _ c.loop-b-test.true c.from-k.ensures (search rules) c.loop-b.invariant)
      | else-k w ↦ rw w.a-is (tally_pass g.row.SHARE g.row.LEAST _ _ _ c.from-k.result c.loop-b-test.true c.from-k.ensures w.if-k.false c.loop-b.invariant)
    ]

pub returns : goal.returns
returns g c = tally_done g.row.SHARE g.row.LEAST _ _ _ c.loop-b-test.false c.loop-b.invariant
