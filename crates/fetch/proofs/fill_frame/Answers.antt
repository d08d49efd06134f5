-- `fetch::fill_frame` meets its contract: the frame is lent on by itself and put back.
use Prim.Native.Nat.{◌+◌, ◌*◌}
use mathlib.Core.Path.{refl}
use Rattle.fetch.proofs.Laws.{mid_put}
use Rattle.fetch.proofs.fill_frame.Goals as goal

pub returns : goal.returns
returns c =
    let a = c.args in
    mid_put a.pool.now c.rebuild.new.g _ (a.f.0 * a.size) a.size (a.f.0 * a.size + a.size) refl c.rebuild.ensures
