use Rattle.std.proofs.Common.{rules, ap, ◌∙◌, ℕ, List, take}
use Rattle.record.proofs.Listed.{listed}
use Rattle.record.proofs.row.first_rows.Goals as goal

pub returns : goal.returns
returns g c = ap (λ (l : List (List ℕ)). take c.args.m l) c.as_chunks.ensures.front ∙ listed g.row.W c.args.m c.args.t.now (search rules)
