-- `pagetable::frames_served` meets its contract: the parts that are lent are the entries and the order.
use Prim.Native.Nat.{◌+◌, ◌-◌}
use native.Mathlib.Omega.{arith}
use mathlib.Core.Path.{◌≡◌}
use lib.ListN.{length}
use Rattle.pagetable.proofs.Loops.{agree_part}
use Rattle.pagetable.proofs.frames_served.Goals as goal

pub returns : goal.returns
returns c =
    let a = c.args in
    let p : length a.tables.now - (35 + a.frames) ≡ a.pages = omega arith in
    let q : 35 + a.u - 35 ≡ a.u = omega arith in
    agree_part a.tables.now (35 + a.frames) (35 + a.u) a.pages a.frames a.u _ p q c.frames_agree.ensures
