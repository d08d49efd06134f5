-- `onlinecheck::apart::take_row` meets its contract: the bytes and the mark are those of the row's fields.
use Prim.Native.Nat.{◌+◌, ◌-◌}
use native.Mathlib.Omega.{arith}
use mathlib.Core.Path.{◌∙◌}
use Rattle.onlinecheck.proofs.Bytes.{row_fits, row_taken}
use Rattle.onlinecheck.proofs.apart.take_row.Goals as goal

pub returns : goal.returns
returns c =
    let a = c.args in
    let o = c.offset_of-a.result in
    let w = c.length_of-w.result in
    let r = a.row.now in
    let f = row_fits r _ _ _ c.owner_of.ensures c.offset_of-a.ensures.0 c.length_of-w.ensures.0 c.requires.1 in
    row_taken a.base a.marks.now _ r _ o w (o + w - o) _ (c.from.ensures ∙ c.owner_of.ensures) c.offset_of-a.ensures.0 c.length_of-w.ensures.0 (omega arith) (omega arith) c.take_bytes.ensures.0 c.take_bytes.ensures.1
