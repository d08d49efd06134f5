-- `onlinecheck::apart::one_owner` meets its contract: rows of one owner, and committed ones, are apart.
use Prim.Native.Nat.{◌+◌}
use Rattle.std.proofs.Common.{◌-◌, ◌≡◌, length, take, drop, rules, tests, sym, ◌∙◌}
use Rattle.std.proofs.lemmas.Iterator.{YieldsList-from_slice}
use Rattle.std.proofs.lemmas.Iterator.Search.{all_from_yields_List, position_from_yields_List}
use Rattle.rules.specs.Sound.{every}
use Rattle.durable.proofs.Laws.{every_listed, rest_lent}
use Rattle.onlinecheck.proofs.Laws.{of_one, is_open, open_first, none_open, first_open}
use Rattle.onlinecheck.proofs.apart.one_owner.Goals as goal
use Rattle.onlinecheck.proofs.apart.one_owner.Goals.{After-position}

first : (c : After-position) → c.position.result ≡ open_first c.args.online.now
first c = position_from_yields_List is_open _ _ _ c.position.ensures.ran (YieldsList-from_slice c.args.online.now c.iter.ensures.rest) (λ x b q k. search (rules, tests))

pub returns-in_default : goal.returns-in_default
returns-in_default c = λ h. none_open c.args.online.now (sym (first (goal.at.returns-in_default c).After-position) ∙ c.in_default.is)

pub returns : goal.returns
returns c =
    let l = c.args.online.now in
    let i = c.in-Some.i in
    let x = c.owner_of-x.result in
    let e = sym (first (goal.at.returns c).After-position) ∙ c.in-Some.is in
    let later = take (length l - (i + 1)) (drop (i + 1) l) in
    let o : c.all.result ≡ every (of_one x) later = all_from_yields_List (of_one x) _ _ _ c.all.ensures.ran (YieldsList-from_slice later c.iter-2.ensures.rest) (λ y b q k. search (rules, tests)) ∙ every_listed (of_one x) later in
    λ h. first_open l i x e c.owner_of-x.ensures (rw (rest_lent l (i + 1)) at (sym o ∙ h))
