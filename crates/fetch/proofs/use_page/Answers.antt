-- `fetch::use_page` meets its contract: fetched, then the latest used.
use native.Mathlib.Omega.{arith}
use mathlib.Core.Path.{◌≡◌}
use lib.ListN.{length}
use borrow.Author.Rules.{rules}
use Rattle.rules.specs.Areas.{areas}
use Rattle.fetch.proofs.Laws.{used}
use Rattle.fetch.proofs.use_page.Goals as goal

pub make_latest-requires : goal.make_latest-requires
make_latest-requires c =
    let h = c.requires.0.sized in
    let z = c.params_of-given.ensures in
    let k : length c.fetch-got.new.tables ≡ length c.args.tables.now = search rules in
    (omega (arith, h.tables), omega (arith, h.frames), c.load_order-order.ensures.1, omega (arith, h.frames, c.fetch-got.ensures.within))

pub returns : goal.returns
returns c =
    let a = c.args in
    used (areas a.fixed.now a.marks.now a.log.now a.stored.now a.tables.now a.online.now a.pool.now) a.p.0 _ _ _ _ _ _ _ c.params_of-given.ensures c.load_order-order.ensures.0 c.fetch-got.ensures c.make_latest.ensures
