use Rattle.std.proofs.Common.{ℕ, ◌+◌, eqb, refl, arith, ◌∙◌, get_or, rules, tests}
use Rattle.std.proofs.lemmas.Iterator.{YieldsList-from_range}
use Rattle.std.proofs.lemmas.Iterator.Search.{all_from_yields_List}
use Rattle.pagetable.proofs.Loops.{up_to_list}
use Rattle.pagetable.proofs.each_named.Goals as goal

pub returns : goal.returns
returns c =
    let a = c.args in
    all_from_yields_List (λ (f : ℕ). eqb (get_or a.named.now f 0) (get_or a.served.now (f + 1) 0)) _ _ _ c.all.ensures.ran (YieldsList-from_range 0 a.frames a.frames refl (omega arith)) (λ x b q k. search (rules, tests))
    ∙ up_to_list (λ (f : ℕ). eqb (get_or a.named.now f 0) (get_or a.served.now (f + 1) 0)) a.frames 0
