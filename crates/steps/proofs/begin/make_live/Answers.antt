-- the number is one, and not live, so the clerk makes it live
use Rattle.std.proofs.Common.{sym, refl, ◌∙◌}
use Rattle.steps.proofs.Laws.{begun_ok, begun_set}
use Rattle.steps.proofs.begin.make_live.Goals as goal

pub unwrap-after-requires : goal.unwrap-after-requires
unwrap-after-requires c = rw (c.begin.ensures, begun_ok c.clerk_of-c.result c.args.tables.now c.args.x c.requires.1 c.requires.2 c.requires.3 c.clerk_of-c.ensures.0) refl

pub returns : goal.returns
returns c =
    let k = c.clerk_of-c in
    begun_set k.result c.unwrap-after.result c.args.tables.now _ c.args.x c.requires.1 c.requires.2 c.requires.3 k.ensures.0 (sym c.unwrap-after.ensures ∙ c.begin.ensures) c.save_live.ensures
