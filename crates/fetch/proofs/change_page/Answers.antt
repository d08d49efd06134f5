-- `fetch::change_page` meets its contract: fetched, then noted in the tables.
use native.Mathlib.Omega.{arith}
use mathlib.Core.Path.{◌≡◌}
use lib.ListN.{length}
use borrow.Author.Rules.{rules}
use Rattle.rules.specs.Areas.{areas}
use Rattle.fetch.proofs.Rows.{changed}
use Rattle.fetch.proofs.change_page.Goals as goal

pub note_change-requires : goal.note_change-requires
note_change-requires c =
    let h = c.requires in
    let z = c.params_of-given.ensures in
    let k : length c.fetch-got.new.tables ≡ length c.args.tables.now = search rules in (
      omega (arith, h.1, h.0.sized.tables),
      omega (arith, h.0.sized.frames),
      c.load_order-order.ensures.1,
      omega (arith, h.0.sized.frames, c.fetch-got.ensures.within),
      c.count_of-m.ensures.1,
    )

pub returns : goal.returns
returns c =
    let a = c.args in
    let h = c.requires in
    changed (areas a.fixed.now a.marks.now a.log.now a.stored.now a.tables.now a.online.now a.pool.now) a.p.0 _ _ _ _ _ _ _ _ h.0 h.1 c.params_of-given.ensures c.count_of-m.ensures.0 c.load_order-order.ensures.0 c.fetch-got.ensures c.note_change.ensures
