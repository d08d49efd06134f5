-- Tests that every element of a list passes, or some element: of those that another test keeps, and once an element has changed or left.
use Prim.Native.Nat.{ℕ, zero, suc, ◌<◌}
use native.Mathlib.Omega.{arith}
use mathlib.Core.Path.{◌≡◌, refl, ap, ◌∙◌}
use mathlib.Core.Logic.{◌⊎◌, inl, inr}
use mathlib.Core.Bool.{Bool, true, false, cond, ◌||◌}
use mathlib.Core.List.{List, [], ◌∷◌}
use lib.ListN.{length, get_or, set, replicate}
use lib.Dec.{eqb}
use borrow.Author.Tests.{eqb-true}
use Rattle.word.proofs.Tests.{and_both, and_in}
use Rattle.record.specs.Rows.{keep, any, cons_if}
use Rattle.order.specs.Order.{without}
use Rattle.rules.specs.Sound.{every, zeros}

-- two tests, either of which holds
pub or_either : (a b : Bool) → (a || b) ≡ true → (a ≡ true) ⊎ (b ≡ true)
or_either true b h = inl refl
or_either false b h = inr h

pub or_left : (a b : Bool) → a ≡ true → (a || b) ≡ true
or_left a b h = rw h

pub or_right : (a b : Bool) → b ≡ true → (a || b) ≡ true
or_right true b h = refl
or_right false b h = h

module _ {A : Type 0} where
  -- what every row passes and what some row passes meet in one row
  pub meet : (b d : A → Bool) (l : List A) {C : Type 0} → every b l ≡ true → any d l ≡ true → ((x : A) → b x ≡ true → d x ≡ true → C) → C
  unfolding every any
  meet b d [] {C} h k f = let z : ◌≡◌ {A = ℕ} 0 1 = cc in absurd (omega arith)
  meet b d (x ∷ l) {C} h k f = go (or_either (d x) (any d l) k) (λ (e : any d l ≡ true). meet b d l (and_both (b x) (every b l) h).1 e f)
    where
      go : (d x ≡ true) ⊎ (any d l ≡ true) → (any d l ≡ true → C) → C
      go (inl e) g = f x (and_both (b x) (every b l) h).0 e
      go (inr e) g = g e

  -- a test that each passes implies another
  pub every_imp : (b d : A → Bool) → ((x : A) → b x ≡ true → d x ≡ true) → (l : List A) → every b l ≡ true → every d l ≡ true
  unfolding every
  every_imp b d f [] h = refl
  every_imp b d f (x ∷ l) h =
      let e = and_both (b x) (every b l) h in
      rw (f x e.0) (every_imp b d f l e.1)

  -- those that a test keeps pass what it implies
  pub every_kept : (b d : A → Bool) → ((x : A) → b x ≡ true → d x ≡ true) → (l : List A) → every d (keep b l) ≡ true
  unfolding every keep
  every_kept b d f [] = refl
  every_kept b d f (x ∷ l) = go (b x) refl (every_kept b d f l)
    where
      go : (t : Bool) → b x ≡ t → every d (keep b l) ≡ true → every d (cons_if t x (keep b l)) ≡ true
      go true e h = rw (f x e) h
      go false e h = h

  -- of those that all pass one test, those that pass another
  pub every_kept_where : (b c d : A → Bool) → ((x : A) → b x ≡ true → c x ≡ true → d x ≡ true) → (l : List A) → every c l ≡ true → every d (keep b l) ≡ true
  unfolding every keep
  every_kept_where b c d f [] h = refl
  every_kept_where b c d f (x ∷ l) h =
      let e = and_both (c x) (every c l) h in
      go (b x) refl e.0 (every_kept_where b c d f l e.1)
    where
      go : (t : Bool) → b x ≡ t → c x ≡ true → every d (keep b l) ≡ true → every d (cons_if t x (keep b l)) ≡ true
      go true e g k = rw (f x e g) k
      go false e g k = k

  -- what all pass, those that a test keeps pass
  pub every_keep : (d b : A → Bool) (l : List A) → every b l ≡ true → every b (keep d l) ≡ true
  every_keep d b l h = every_kept_where d b b (λ x e k. k) l h

  -- what a wider test keeps first, a narrower one does not miss
  pub keep_within : (b d : A → Bool) → ((x : A) → b x ≡ true → d x ≡ true) → (l : List A) → keep b (keep d l) ≡ keep b l
  unfolding keep
  keep_within b d f [] = refl
  keep_within b d f (x ∷ l) = go (d x) (b x) refl refl (keep_within b d f l)
    where
      go : (s t : Bool) → d x ≡ s → b x ≡ t → keep b (keep d l) ≡ keep b l → keep b (cons_if s x (keep d l)) ≡ cons_if t x (keep b l)
      go true t e h k = ap (λ (z : Bool). cons_if z x (keep b (keep d l))) h ∙ ap (λ (m : List A). cons_if t x m) k
      go false false e h k = k
      go false true e h k = let g : d x ≡ true = f x h in let z : ◌≡◌ {A = ℕ} 0 1 = cc in absurd (omega arith)

-- an element that every test is told of; one that is set; a frame that has left
pub every_at : (b : ℕ → Bool) (l : List ℕ) (i : ℕ) → every b l ≡ true → i < length l → b (get_or l i 0) ≡ true
unfolding every
every_at b [] i h k = absurd (omega arith)
every_at b (x ∷ l) zero h k = (and_both (b x) (every b l) h).0
every_at b (x ∷ l) (suc i) h k = every_at b l i (and_both (b x) (every b l) h).1 (omega arith)

pub every_set : (b : ℕ → Bool) (l : List ℕ) (i v : ℕ) → every b l ≡ true → b v ≡ true → every b (set l i v) ≡ true
unfolding every
every_set b [] i v h k = h
every_set b (x ∷ l) zero v h k = and_in (b v) (every b l) k (and_both (b x) (every b l) h).1
every_set b (x ∷ l) (suc i) v h k =
    let e = and_both (b x) (every b l) h in
    and_in (b x) (every b (set l i v)) e.0 (every_set b l i v e.1 k)

pub every_without : (b : ℕ → Bool) (f : ℕ) (o : List ℕ) → every b o ≡ true → every b (without f o) ≡ true
unfolding every without
every_without b f [] h = h
every_without b f (x ∷ o) h = let e = and_both (b x) (every b o) h in go (eqb x f) e.0 (every_without b f o e.1)
  where
    go : (z : Bool) → b x ≡ true → every b (without f o) ≡ true → every b (cond z (without f o) (x ∷ without f o)) ≡ true
    go true e k = k
    go false e k = and_in (b x) (every b (without f o)) e k

-- bytes that are zero are as many zeros
pub zeros_are : (l : List ℕ) → zeros l ≡ true → l ≡ replicate (length l) 0
unfolding zeros every
zeros_are [] h = refl
zeros_are (x ∷ l) h =
    let e = and_both (eqb x 0) (every (λ (b : ℕ). eqb b 0) l) h in
    ap (λ (y : ℕ). y ∷ l) (eqb-true x 0 e.0) ∙ ap (λ (y : List ℕ). 0 ∷ y) (zeros_are l e.1)
