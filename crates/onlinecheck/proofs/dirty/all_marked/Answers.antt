use Prim.Native.Nat.{◌+◌}
use mathlib.Core.List.{[], ◌∷◌, ◌++◌}
use native.Mathlib.Omega.{arith}
use mathlib.Core.Path.{◌≡◌}
use lib.ListN.{length, length-append}
use Rattle.std.proofs.lemmas.Slice.Zip.{zip_turn, zip_end}
use Rattle.std.specs.Slice.Iter.{iter_rest}
use Rattle.std.specs.Iterator.Adapters.{zip_first, zip_second}
use mathlib.Core.Bool.{false}
use Rattle.rules.proofs.Walks.{up_to_joins, up_to_joined}
use Rattle.onlinecheck.specs.Marks.{entry_marked}
use Rattle.onlinecheck.proofs.Marks.{marked_read}
use Rattle.onlinecheck.proofs.dirty.all_marked.Goals as goal

pub loop-e-preserved : goal.loop-e-preserved
loop-e-preserved c =
    let a = c.args in
    let h = c.loop-e in
    let s = c.into_iter-e-iterator.result in
    let f : iter_rest (zip_first s) ≡ a.entries.now = cc in
    let g : iter_rest (zip_second s) ≡ a.marks.now = cc in
    let z = zip_turn a.entries.now a.marks.now h.yielded s h.e-iterator c.next.new.self c.next.result f g h.yielded_by (c.in-Some.e, c.in-Some.has) c.in-Some.is c.next.ensures.steps in
    let n : length (h.yielded ++ (c.in-Some.e, c.in-Some.has) ∷ []) ≡ length h.yielded + 1 = length-append h.yielded ((c.in-Some.e, c.in-Some.has) ∷ []) in
    let e = z.2 0 in
    let k = z.3 false in
    rw (n, e, k) (up_to_joins (entry_marked a.entries.now a.marks.now) (length a.entries.now) (length h.yielded) h.ok _ _ z.0 (marked_read a.entries.now a.marks.now (length h.yielded)) h.invariant)

pub returns : goal.returns
returns c =
    let a = c.args in
    let h = c.loop-e in
    let s = c.into_iter-e-iterator.result in
    let f : iter_rest (zip_first s) ≡ a.entries.now = cc in
    let g : iter_rest (zip_second s) ≡ a.marks.now = cc in
    let z = zip_end a.entries.now a.marks.now h.yielded s h.e-iterator c.next.new.self c.next.result f g h.yielded_by c.in-None.is c.next.ensures.steps in
    up_to_joined (entry_marked a.entries.now a.marks.now) (length a.entries.now) (length h.yielded) h.ok _ (omega arith) h.invariant
