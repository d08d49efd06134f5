-- `fetch::copy_out` meets its contract: the bytes of the page lie within its frame.
use Prim.Native.Nat.{◌+◌, ◌*◌}
use native.Mathlib.Omega.{arith}
use lib.ListN.{length-take}
use borrow.Author.Rules.{rules}
use Rattle.fetch.proofs.Laws.{out_length, out_part}
use Rattle.fetch.proofs.copy_out.Goals as goal

pub slice_bounds-copy-end-2 : goal.slice_bounds-copy-end-2
slice_bounds-copy-end-2 c =
    let a = c.args in
    omega (arith, length-take a.w a.buffer.now)

pub copy-requires : goal.copy-requires
copy-requires c =
    let a = c.args in
    out_length a.pool.now a.buffer.now (a.f.0 * a.size + a.offset) a.w (search rules) (search rules)

pub returns : goal.returns
returns c =
    let a = c.args in
    out_part a.pool.now a.buffer.now c.copy.new.to a.f.0 a.size a.offset a.w (search rules) c.copy.ensures
