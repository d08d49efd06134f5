-- The header, then the records behind it.
use native.Mathlib.Omega.{arith}
use Rattle.journal.proofs.Writes.{fit}
use Rattle.journalwrite.proofs.Lists.{all_written}
use Rattle.journalwrite.proofs.list.write_all.Goals as goal

pub overflow_cast-count : goal.overflow_cast-count
overflow_cast-count c = let f = (fit _ _ _ _ _ c.requires) in omega (arith, f.few)

pub nonzero_div-held : goal.nonzero_div-held
nonzero_div-held c = let f = (fit _ _ _ _ _ c.requires) in omega (arith, f.least)

pub overflow_cast-held : goal.overflow_cast-held
overflow_cast-held c = let f = (fit _ _ _ _ _ c.requires) in omega (arith, f.pages)

pub put_header-requires : goal.put_header-requires
put_header-requires c = let f = (fit _ _ _ _ _ c.requires) in (omega (arith, f.low), omega (arith, f.space))

pub put_records-requires : goal.put_records-requires
put_records-requires c = let f = (fit _ _ _ _ _ c.requires) in (omega (arith, f.space), f.least, f.most, f.pages, f.lent_all)

pub returns : goal.returns
returns c =
    let a = c.args in
    let f = (fit _ _ _ _ _ c.requires) in
    all_written a.pages.now a.list.now a.target.now _ _ a.page_size a.nonce a.sector (omega (arith, f.low)) c.put_header.ensures c.put_records.ensures
