-- `onlinecheck::logged::same_row` meets its contract: the fields that were read are the same exactly if their bytes are.
use native.Mathlib.Omega.{arith}
use Rattle.onlinecheck.proofs.Laws.{same_fields}
use Rattle.onlinecheck.proofs.logged.same_row.Goals as goal

pub returns : goal.returns
returns c =
    let r = c.args.row.now in
    let l = c.args.logged.now in
    rw (
      c.eq.ensures,
      c.page_of.ensures.0,
      c.page_of-2.ensures.0,
      c.offset_of.ensures.0,
      c.offset_of-2.ensures.0,
      c.length_of.ensures.0,
      c.length_of-2.ensures.0,
      c.kind_of.ensures,
      c.kind_of-2.ensures,
      c.value_of.ensures,
      c.value_of-2.ensures,
    ) (same_fields r l (λ k. omega (arith, c.fits-row k)) (λ k. omega (arith, c.fits-logged k)) c.told-row c.told-logged)
