-- Each number goes behind what was written before it.
use Rattle.journalwrite.proofs.Fills.{fields}
use Rattle.journalwrite.proofs.put.put_fields.Goals as goal

pub returns : goal.returns
returns c =
    let a = c.args in
    fields a.count a.nonce a.pages a.sector a.size a.target.now _ _ _ _ _ _ c.put_first.ensures c.store.ensures c.store-2.ensures c.store-3.ensures c.store-4.ensures c.store-5.ensures
