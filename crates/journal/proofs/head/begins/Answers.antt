-- `head::begins` meets its contract: what `same` says of the first eight bytes.
use Rattle.std.proofs.Common.{ℕ, List, take, ap, ◌∙◌}
use Rattle.journal.specs.Layout.{same}
use Rattle.journal.proofs.Laws.{same_told}
use Rattle.journal.proofs.head.begins.Goals as goal

pub returns : goal.returns
returns c = same_told _ _ _ c.same.ensures.0 c.same.ensures.1 ∙ ap (λ (x : List ℕ). same (take 8 c.args.journal.now) x) c.first_bytes-first.ensures
