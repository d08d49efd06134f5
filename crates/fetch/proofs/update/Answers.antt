-- `fetch::update` meets its contract: the row is appended where zeros were, and applied as it stands there.
use native.Mathlib.Omega.{arith}
use mathlib.Core.Path.{◌≡◌}
use lib.ListN.{length}
use borrow.Author.Rules.{rules}
use Rattle.record.specs.Record.{row_of}
use Rattle.rules.specs.Areas.{areas}
use Rattle.record.proofs.Rows.{length_row_of}
use Rattle.fetch.proofs.Laws.{used_fits}
use Rattle.record.proofs.Fields.{row_page}
use Rattle.fetch.proofs.Rows.{updated_row}
use Rattle.fetch.proofs.update.Goals as goal

pub change_page-got-requires : goal.change_page-got-requires
change_page-got-requires c =
    let h = c.requires in
    (h.0, h.1)

pub append-requires : goal.append-requires
append-requires c =
    let h = c.requires in
    let m = c.count_of-m.ensures.0 in
    (omega (arith, h.0.sized.online, h.4), omega (arith, h.1, h.0.sized.pages), omega (arith, h.2, h.0.sized.size), omega (arith, h.3))

pub apply_in-requires : goal.apply_in-requires
apply_in-requires c =
    let a = c.args in
    let k : length c.change_page-got.new.pool ≡ length a.pool.now = search rules in
    used_fits (areas a.fixed.now a.marks.now a.log.now a.stored.now a.tables.now a.online.now a.pool.now) a.p.0 _ _ _ _ _ _ c.requires.0 c.params_of-given.ensures c.change_page-got.ensures k

pub row_at-requires : goal.row_at-requires
row_at-requires c =
    let h = c.requires in
    let m = c.count_of-m.ensures.0 in
    let l : length c.append.new.t ≡ length c.args.online.now = search rules in
    (search rules, (search rules, omega (arith, h.0.sized.online, h.4)))

pub returns : goal.returns
returns c =
    let a = c.args in
    let h = c.requires in
    updated_row (areas a.fixed.now a.marks.now a.log.now a.stored.now a.tables.now a.online.now a.pool.now) (row_of a.p.0 a.offset a.w a.kind a.v a.owner) a.p.0 _ _ _ _ _ _ _ _
    (row_page a.p.0 a.offset a.w a.kind a.v a.owner (omega (arith, h.1, h.0.sized.pages)))
    (length_row_of a.p.0 a.offset a.w a.kind a.v a.owner)
    h.0 h.4 h.5
    c.params_of-given.ensures c.count_of-m.ensures.0 c.change_page-got.ensures c.append.ensures (rw c.row_at.ensures at c.apply_in.ensures)
