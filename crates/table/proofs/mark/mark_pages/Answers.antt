use Prim.Native.Nat.{ℕ}
use mathlib.Core.Path.{◌≡◌, ap, ◌∙◌}
use mathlib.Core.Bool.{cond}
use mathlib.Core.List.{List, []}
use lib.ListN.{get_or, set}
use Rattle.record.specs.Record.{owner_of, page_of}
use Rattle.record.proofs.Listed.{when_so, when_not}
use Rattle.table.proofs.Marks.{marked_more, marked_all}
use Rattle.table.proofs.mark.mark_pages.Goals as goal
use Rattle.table.proofs.mark.mark_pages.Goals.{then-takes, else-takes}

pub loop-row-preserved : goal.loop-row-preserved
loop-row-preserved g c b h =
    let a = c.args in
    let o = c.loop-row in
    let r = get_or a.online.now o.row-index [] in
    let k : c.takes.result ≡ b (owner_of r) = h c.owner_of.result c.takes.result c.owner_of.type_inv c.takes.ensures ∙ ap b c.owner_of.ensures in
    let one : c.if-takes.marks ≡ cond (b (owner_of r)) (set o.marks (page_of r) 1) o.marks =
    elim c.if-takes.branch [
      | then-takes w ↦ when_so _ _ _ _ _ k w.if-takes.true (w.marks-is ∙ w.set_byte.ensures ∙ ap (λ (p : ℕ). set o.marks p 1) w.page_of.ensures.0)
      | else-takes w ↦ when_not _ _ _ _ _ k w.if-takes.false w.marks-is
    ]
    in
    marked_more (λ (x : List ℕ). b (owner_of x)) a.online.now o.row-index o.marks c.if-takes.marks _ c.loop-row-test.true one (o.invariant b h)

pub returns : goal.returns
returns g c b h = marked_all (λ (x : List ℕ). b (owner_of x)) c.args.online.now c.loop-row.row-index c.loop-row.marks _ c.loop-row-test.false (c.loop-row.invariant b h)
