-- Five calls in a row: what each leaves is what the next finds.
use Rattle.format.proofs.Laws.{fixed_made}
use Rattle.format.proofs.write_fixed.Goals as goal

pub returns : goal.returns
returns c =
    fixed_made _ c.args.fixed.now _ _ _ _ _
    c.requires
    c.store.ensures
    c.store-2.ensures
    c.store-3.ensures
    c.store-4.ensures
    c.store-5.ensures
