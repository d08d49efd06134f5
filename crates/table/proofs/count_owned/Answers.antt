use mathlib.Core.Path.{ap, ◌≡◌}
use mathlib.Core.Bool.{cond}
use mathlib.Core.List.{[]}
use Prim.Native.Nat.{ℕ, ◌+◌}
use lib.ListN.{length, get_or}
use lib.Dec.{eqb}
use borrow.Author.Tests.{eq-eqb, ne_eqb}
use native.Mathlib.Omega.{arith}
use Rattle.record.specs.Rows.{keep}
use Rattle.record.specs.Record.{owned_by}
use Rattle.record.proofs.Listed.{when_so, when_not, count_more, count_all}
use Rattle.record.proofs.Rows.{keep_length}
use Rattle.table.proofs.count_owned.Goals as goal
use Rattle.table.proofs.count_owned.Goals.{then-owner_of-owner, else-owner_of-owner}

pub loop-row-preserved : goal.loop-row-preserved
loop-row-preserved c =
    let a = c.args in
    let r = get_or a.online.now c.loop-row.row-index [] in
    let one : c.if-owner_of-owner.n ≡ cond (owned_by a.owner r) (c.loop-row.n + 1) c.loop-row.n =
    elim c.if-owner_of-owner.branch [
      | then-owner_of-owner w ↦ when_so (eqb c.owner_of.result a.owner) _ _ _ _ (ap (λ (o : ℕ). eqb o a.owner) c.owner_of.ensures) (eq-eqb _ _ w.if-owner_of-owner.true) w.n-is
      | else-owner_of-owner w ↦ when_not (eqb c.owner_of.result a.owner) _ _ _ _ (ap (λ (o : ℕ). eqb o a.owner) c.owner_of.ensures) (ne_eqb _ _ w.if-owner_of-owner.false) w.n-is
    ]
    in
    (omega arith, count_more _ _ _ _ _ _ c.loop-row-test.true one c.loop-row.invariant.1)

pub returns : goal.returns
returns c =
    let e : c.loop-row.n ≡ 0 + length (keep (owned_by c.args.owner) c.args.online.now) = count_all _ _ _ _ _ c.loop-row-test.false c.loop-row.invariant.1 in
    (omega arith, omega (arith, keep_length (owned_by c.args.owner) c.args.online.now))
