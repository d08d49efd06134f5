use Prim.Native.Nat.{◌+◌}
use native.Mathlib.Omega.{arith}
use lib.ListN.{length-drop}
use Rattle.walwrite.proofs.Laws.{behind, fold_turn, fold_done}
use Rattle.walwrite.proofs.fold.Goals as goal

pub loop-i-preserved : goal.loop-i-preserved
loop-i-preserved c =
    let l = c.loop-i.rest.now in
    let k = c.in-Some.i + 1 in
    rw (behind k l) (record {
      within = omega (arith, length-drop k l, c.loop-i.invariant.within);
      left = fold_turn _ _ _ _ _ _ c.in-Some.ensures.0 c.in-Some.ensures.1 c.fold.ensures c.loop-i.invariant.left;
    })

pub returns : goal.returns
returns c = fold_done _ _ _ c.in_default.ensures c.loop-i.invariant.left
