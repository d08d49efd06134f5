use Prim.Native.Nat.{◌-◌}
use native.Mathlib.Omega.{arith}
use Rattle.onlinecheck.proofs.Rows.{page_at}
use Rattle.onlinecheck.proofs.Chains.{link_turn}
use Rattle.onlinecheck.proofs.apart.link.Goals as goal

pub loop-i-preserved : goal.loop-i-preserved
loop-i-preserved c =
    let a = c.args in
    let h = c.loop-i in
    link_turn a.online.now h.i (h.i - 1) h.heads h.after _ _ (omega arith) (omega arith) c.requires.0 (page_at 1024 a.online.now (h.i - 1) (omega arith) c.requires.1) c.link_row.ensures.0 c.link_row.ensures.1 h.invariant
