-- `onlinecheck::dirty::all_agree` meets its contract: from no marks, a page is marked exactly if a row is of it.
use Prim.Native.Nat.{◌+◌, ◌-◌}
use native.Mathlib.Omega.{arith}
use mathlib.Core.Path.{◌≡◌}
use lib.ListN.{length}
use Rattle.record.specs.Part.{part}
use Rattle.record.proofs.Parts.{length_part}
use Rattle.onlinecheck.proofs.Marks.{marked_agree, pages_within}
use Rattle.onlinecheck.proofs.dirty.all_agree.Goals as goal

pub mark_pages-requires : goal.mark_pages-requires
mark_pages-requires c =
    let a = c.args in
    pages_within a.pages _ c.requires.1 c.requires.2

pub returns : goal.returns
returns c =
    let a = c.args in
    let from = 35 + a.frames in
    let n : from + a.pages - from ≡ a.pages = omega arith in
    let e : length (part from a.pages a.tables.now) ≡ a.pages = length_part from a.pages a.tables.now (omega arith) in
    marked_agree (part from a.pages a.tables.now) a.online.now _ a.pages _ _ c.requires.1 e c.mark_pages.ensures (rw n at c.all_marked.ensures)
