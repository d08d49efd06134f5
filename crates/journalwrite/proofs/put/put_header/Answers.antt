-- The part filled with zeros stands behind the fields.
use Rattle.journalwrite.proofs.Fills.{padded}
use Rattle.journalwrite.proofs.put.put_header.Goals as goal

pub returns : goal.returns
returns c =
    let a = c.args in
    padded a.count a.nonce a.pages a.sector a.size a.target.now _ _ c.requires.0 c.requires.1 c.put_fields.ensures (c.fill.ensures.after (λ y h. h))
