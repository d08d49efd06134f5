-- `fetch::read` meets its contract: the page is used, then its bytes are copied out.
use native.Mathlib.Omega.{arith}
use mathlib.Core.Path.{◌≡◌}
use lib.ListN.{length}
use borrow.Author.Rules.{rules}
use Rattle.rules.specs.Areas.{areas}
use Rattle.fetch.proofs.Laws.{used_fits, read_done}
use Rattle.fetch.proofs.read.Goals as goal

pub copy_out-requires : goal.copy_out-requires
copy_out-requires c =
    let a = c.args in
    let h = c.requires in
    let z = c.params_of-given.ensures in
    let k : length c.use_page-got.new.pool ≡ length a.pool.now = search rules in
    (used_fits (areas a.fixed.now a.marks.now a.log.now a.stored.now a.tables.now a.online.now a.pool.now) a.p.0 _ _ _ _ _ _ h.0 z c.use_page-got.ensures k, omega (arith, h.2, z.size), h.3)

pub returns : goal.returns
returns c =
    let a = c.args in
    read_done (areas a.fixed.now a.marks.now a.log.now a.stored.now a.tables.now a.online.now a.pool.now) a.p.0 a.offset a.w _ _ _ _ _ _ _ c.params_of-given.ensures c.use_page-got.ensures c.copy_out.ensures
