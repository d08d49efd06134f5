-- Tests of rows in a row: one more row, rows that are kept, and what S9 and S13 say of two rows.
use Prim.Native.Nat.{ℕ, zero, suc, ◌<◌}
use native.Mathlib.Omega.{arith}
use mathlib.Core.Path.{◌≡◌, refl, sym, ap, ◌∙◌}
use mathlib.Core.Bool.{Bool, true, false, not, ◌&&◌, ◌||◌, or-false, or_assoc, not-not}
use mathlib.Core.List.{List, [], ◌∷◌, ◌++◌}
use lib.ListN.{drop}
use lib.Dec.{eqb}
use borrow.Author.Tests.{eqb-true, eqb-false, eq-eqb, not-true}
use Rattle.word.proofs.Tests.{and_both, and_in}
use Rattle.record.specs.Rows.{keep, cons_if, any}
use Rattle.record.specs.Record.{number_of}
use Rattle.rules.specs.Sound.{every, pairs, up_to, agree, apart, same}
use Rattle.rules.specs.Calls.{held_to_update}
use Rattle.rules.proofs.Every.{or_left, or_right, every_keep, every_imp}
use Rattle.redo.proofs.Reader.{none_each}
use Rattle.rules.proofs.Walks.{up_to_all as up_to_from, up_to_at as at_from}

-- each of n numbers passes a test
pub up_to_all : (b : ℕ → Bool) (n : ℕ) → ((i : ℕ) → i < n → b i ≡ true) → up_to b n 0 ≡ true
up_to_all b n h = up_to_from b n 0 (λ i k l. h i (omega arith))

pub up_to_at : (b : ℕ → Bool) (n i : ℕ) → up_to b n 0 ≡ true → i < n → b i ≡ true
up_to_at b n i h k = at_from b n 0 i (omega arith) (omega arith) h

-- two tests that agree
pub agree_same : (a b : Bool) → a ≡ b → agree a b ≡ true
agree_same true b e = sym e
agree_same false b e = ap not (sym e)

pub agree_then : (a b : Bool) → agree a b ≡ true → a ≡ b
agree_then true b e = sym e
agree_then false b e = sym (not-true b e)

-- what every row passes
pub every_all : (b : List ℕ → Bool) → ((r : List ℕ) → b r ≡ true) → (l : List (List ℕ)) → every b l ≡ true
unfolding every
every_all b f [] = refl
every_all b f (r ∷ l) = and_in (b r) (every b l) (f r) (every_all b f l)

-- rows appended: every row, each two, one at least
pub every_append : (b : List ℕ → Bool) (l m : List (List ℕ)) → every b l ≡ true → every b m ≡ true → every b (l ++ m) ≡ true
unfolding every
every_append b [] m h k = k
every_append b (r ∷ l) m h k =
    let e : (b r ≡ true) × (every b l ≡ true) = and_both (b r) (every b l) h in
    and_in (b r) (every b (l ++ m)) e.0 (every_append b l m e.1 k)

pub every_one : (b : List ℕ → Bool) (r : List ℕ) → b r ≡ true → every b (r ∷ []) ≡ true
unfolding every
every_one b r h = rw h

pub every_last : (b : List ℕ → Bool) (l : List (List ℕ)) (r : List ℕ) → every b l ≡ true → b r ≡ true → every b (l ++ (r ∷ [])) ≡ true
every_last b l r h k = every_append b l (r ∷ []) h (every_one b r k)

pub pairs_last : (b : List ℕ → List ℕ → Bool) (l : List (List ℕ)) (r : List ℕ) → pairs b l ≡ true → every (λ (a : List ℕ). b a r) l ≡ true → pairs b (l ++ (r ∷ [])) ≡ true
unfolding pairs every
pairs_last b [] r h k = refl
pairs_last b (x ∷ l) r h k =
    let e : (every (b x) l ≡ true) × (pairs b l ≡ true) = and_both (every (b x) l) (pairs b l) h in
    let f : (b x r ≡ true) × (every (λ (a : List ℕ). b a r) l ≡ true) = and_both (b x r) (every (λ (a : List ℕ). b a r) l) k in
    and_in (every (b x) (l ++ (r ∷ []))) (pairs b (l ++ (r ∷ []))) (every_last (b x) l r e.0 f.0) (pairs_last b l r e.1 f.1)

pub any_last : (b : List ℕ → Bool) (l : List (List ℕ)) (r : List ℕ) → any b (l ++ (r ∷ [])) ≡ (any b l || b r)
unfolding any
any_last b [] r = or-false (b r)
any_last b (x ∷ l) r = ap (λ (t : Bool). b x || t) (any_last b l r) ∙ sym (or_assoc (b x) (any b l) (b r))

-- rows behind some
pub every_drop : (b : List ℕ → Bool) (n : ℕ) (l : List (List ℕ)) → every b l ≡ true → every b (drop n l) ≡ true
unfolding every
every_drop b zero l h = h
every_drop b (suc n) [] h = h
every_drop b (suc n) (r ∷ l) h = every_drop b n l (and_both (b r) (every b l) h).1

-- what those kept pass, told of all
pub picked_every : (a c : List ℕ → Bool) (l : List (List ℕ)) → every c (keep a l) ≡ true → every (λ (r : List ℕ). not (a r) || c r) l ≡ true
unfolding every keep
picked_every a c [] h = refl
picked_every a c (r ∷ l) h = pick (a r) (picked_every a c l) h
  where
    pick : (t : Bool) → (every c (keep a l) ≡ true → every (λ (q : List ℕ). not (a q) || c q) l ≡ true) → every c (cons_if t r (keep a l)) ≡ true → ((not t || c r) && every (λ (q : List ℕ). not (a q) || c q) l) ≡ true
    pick true f k =
        let e : (c r ≡ true) × (every c (keep a l) ≡ true) = and_both (c r) (every c (keep a l)) k in
        and_in (c r) (every (λ (q : List ℕ). not (a q) || c q) l) e.0 (f e.1)
    pick false f k = f k

-- each two of those kept
pub pairs_keep : (a : List ℕ → Bool) (b : List ℕ → List ℕ → Bool) (l : List (List ℕ)) → pairs b l ≡ true → pairs b (keep a l) ≡ true
unfolding pairs keep
pairs_keep a b [] h = refl
pairs_keep a b (r ∷ l) h =
    let e : (every (b r) l ≡ true) × (pairs b l ≡ true) = and_both (every (b r) l) (pairs b l) h in
    pick (a r) (every_keep a (b r) l e.0) (pairs_keep a b l e.1)
  where
    pick : (t : Bool) → every (b r) (keep a l) ≡ true → pairs b (keep a l) ≡ true → pairs b (cons_if t r (keep a l)) ≡ true
    pick true h k = and_in (every (b r) (keep a l)) (pairs b (keep a l)) h k
    pick false h k = k

-- a row is the same as itself
pub same_itself : (l : List ℕ) → same l l ≡ true
unfolding same
same_itself [] = refl
same_itself (x ∷ l) = and_in (eqb x x) (same l l) (eq-eqb x x refl) (same_itself l)

-- S9 of two records
abbrev pub differ : List ℕ → List ℕ → Bool
differ a b = eqb (number_of a) 0 || not (eqb (number_of a) (number_of b))

pub differ_by : (a b : List ℕ) → (number_of a ≡ number_of b → number_of a ≡ 0) → differ a b ≡ true
differ_by a b h = go (eqb (number_of a) (number_of b)) refl
  where
    go : (t : Bool) → eqb (number_of a) (number_of b) ≡ t → (eqb (number_of a) 0 || not t) ≡ true
    go true e = or_left (eqb (number_of a) 0) false (eq-eqb (number_of a) 0 (h (eqb-true (number_of a) (number_of b) e)))
    go false e = or_right (eqb (number_of a) 0) true refl

pub differ_then : (a b : List ℕ) → differ a b ≡ true → number_of a ≡ number_of b → number_of a ≡ 0
differ_then a b h e = go (eqb (number_of a) 0) refl h
  where
    go : (t : Bool) → eqb (number_of a) 0 ≡ t → (t || not (eqb (number_of a) (number_of b))) ≡ true → number_of a ≡ 0
    go true k p = eqb-true (number_of a) 0 k
    go false k p = absurd (eqb-false (number_of a) (number_of b) (not-true (eqb (number_of a) (number_of b)) p) e)

-- S13: refusal 6 did not come, so the new row is apart from each
pub apart_each : (l : List (List ℕ)) (r : List ℕ) → held_to_update l r ≡ false → every (λ (a : List ℕ). apart a r) l ≡ true
apart_each l r h =
    every_imp (λ (a : List ℕ). not (not (apart a r))) (λ (a : List ℕ). apart a r) (λ a k. sym (not-not (apart a r)) ∙ k) l
    (none_each (λ (a : List ℕ). not (apart a r)) l h)
