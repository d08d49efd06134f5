-- The smallest and the greatest number of rows: close takes dirty numbers and what is dropped from the first, compact takes a stamp from the second.
use Prim.Native.Nat.{ℕ, zero, suc, ◌≤◌, min, max}
use native.Mathlib.Omega.{arith}
use mathlib.Core.Path.{◌≡◌, refl, sym, ap, ◌∙◌, subst}
use mathlib.Core.Logic.{◌⊎◌, inl, inr}
use mathlib.Core.Bool.{Bool, true, false, ◌||◌}
use mathlib.Core.List.{List, [], ◌∷◌}
use lib.ListN.{length}
use lib.Dec.{eqb, leb}
use borrow.Author.Tests.{eq-eqb, leb-true, leb-false, le-leb}
use Rattle.word.proofs.Tests.{and_both}
use Rattle.record.specs.Rows.{cons_if, keep, any}
use Rattle.record.specs.Record.{number_of, lesser, smallest, greatest}
use Rattle.record.proofs.Laws.{lesser_none, lesser_old, lesser_new}
use Rattle.rules.specs.Sound.{every}
use Rattle.rules.proofs.Every.{or_either, or_left, or_right, every_keep}

-- a row that has a number, and one whose number is at most n
abbrev pub has_number : List ℕ → Bool
has_number r = leb 1 (number_of r)

abbrev pub number_at_most : ℕ → List ℕ → Bool
number_at_most n r = leb (number_of r) n

-- the smaller of two numbers
lesser_is : (a b : ℕ) → 1 ≤ a → ((lesser a b ≡ a) × (a ≤ b)) ⊎ ((lesser a b ≡ b) × (b ≤ a))
lesser_is a b h = go (leb a b) refl
  where
    go : (z : Bool) → leb a b ≡ z → ((lesser a b ≡ a) × (a ≤ b)) ⊎ ((lesser a b ≡ b) × (b ≤ a))
    go true e = inl (sym (lesser_old a b (λ k. omega arith) (leb-true a b e)), leb-true a b e)
    go false e = inr (sym (lesser_new a b (λ k. omega arith) (leb-false a b e)), omega (arith, leb-false a b e))

-- where 0 is none, the smaller is at most the new number
pub lesser_most : (a b : ℕ) → lesser a b ≤ b
lesser_most zero b = let e : b ≡ lesser 0 b = lesser_none 0 b refl in omega arith
lesser_most (suc a) b = go (lesser_is (suc a) b (omega arith))
  where
    go : ((lesser (suc a) b ≡ suc a) × (suc a ≤ b)) ⊎ ((lesser (suc a) b ≡ b) × (b ≤ suc a)) → lesser (suc a) b ≤ b
    go (inl e) = omega arith
    go (inr e) = omega arith

lesser_least : (a b : ℕ) → 1 ≤ b → 1 ≤ lesser a b
lesser_least zero b h = let e : b ≡ lesser 0 b = lesser_none 0 b refl in omega arith
lesser_least (suc a) b h = go (lesser_is (suc a) b (omega arith))
  where
    go : ((lesser (suc a) b ≡ suc a) × (suc a ≤ b)) ⊎ ((lesser (suc a) b ≡ b) × (b ≤ suc a)) → 1 ≤ lesser (suc a) b
    go (inl e) = omega arith
    go (inr e) = omega arith

-- among rows that have numbers: no more than the smallest so far
smallest_from : (a : ℕ) (rs : List (List ℕ)) → every has_number rs ≡ true → 1 ≤ a → (1 ≤ smallest a rs) × (smallest a rs ≤ a)
unfolding smallest every
smallest_from a [] h k = (k, omega arith)
smallest_from a (r ∷ rs) h k =
    let e = and_both (has_number r) (every has_number rs) h in
    let f : 1 ≤ lesser a (number_of r) = lesser_least a (number_of r) (leb-true 1 (number_of r) e.0) in
    let g = smallest_from (lesser a (number_of r)) rs e.1 f in
    (g.0, go (lesser_is a (number_of r) k) g.1)
  where
    go : ((lesser a (number_of r) ≡ a) × (a ≤ number_of r)) ⊎ ((lesser a (number_of r) ≡ number_of r) × (number_of r ≤ a)) → smallest (lesser a (number_of r)) rs ≤ lesser a (number_of r) → smallest (lesser a (number_of r)) rs ≤ a
    go (inl i) j = omega arith
    go (inr i) j = omega arith

-- the smallest is at most each number
smallest_each : (a : ℕ) (rs : List (List ℕ)) → every has_number rs ≡ true → every (λ (r : List ℕ). leb (smallest a rs) (number_of r)) rs ≡ true
unfolding smallest every
smallest_each a [] h = refl
smallest_each a (r ∷ rs) h =
    let e = and_both (has_number r) (every has_number rs) h in
    let f : 1 ≤ lesser a (number_of r) = lesser_least a (number_of r) (leb-true 1 (number_of r) e.0) in
    let g = smallest_from (lesser a (number_of r)) rs e.1 f in
    let m : lesser a (number_of r) ≤ number_of r = lesser_most a (number_of r) in
    let i : smallest (lesser a (number_of r)) rs ≤ number_of r = omega (arith, g.1) in
    rw (le-leb (smallest (lesser a (number_of r)) rs) (number_of r) i) (smallest_each (lesser a (number_of r)) rs e.1)

pub smallest_all : (rs : List (List ℕ)) → every has_number rs ≡ true → every (λ (r : List ℕ). leb (smallest 0 rs) (number_of r)) rs ≡ true
smallest_all rs h = smallest_each 0 rs h

-- it is the smallest so far, or one of them
of_three : (b a n m : ℕ) (rest : Bool) → ((b ≡ a) × (a ≤ n)) ⊎ ((b ≡ n) × (n ≤ a)) → (eqb b m || rest) ≡ true → (eqb a m || (eqb n m || rest)) ≡ true
of_three b a n m rest (inl i) h = go (or_either (eqb a m) rest (rw i.0 at h))
  where
    go : (eqb a m ≡ true) ⊎ (rest ≡ true) → (eqb a m || (eqb n m || rest)) ≡ true
    go (inl j) = or_left (eqb a m) (eqb n m || rest) j
    go (inr j) = or_right (eqb a m) (eqb n m || rest) (or_right (eqb n m) rest j)
of_three b a n m rest (inr i) h = or_right (eqb a m) (eqb n m || rest) (rw i.0 at h)

smallest_either : (a : ℕ) (rs : List (List ℕ)) → 1 ≤ a → every has_number rs ≡ true → (eqb a (smallest a rs) || any (λ (r : List ℕ). eqb (number_of r) (smallest a rs)) rs) ≡ true
unfolding smallest every any
smallest_either a [] k h = or_left (eqb a a) false (eq-eqb a a refl)
smallest_either a (r ∷ rs) k h =
    let e = and_both (has_number r) (every has_number rs) h in
    let b : ℕ = lesser a (number_of r) in
    of_three b a (number_of r) (smallest b rs) (any (λ (x : List ℕ). eqb (number_of x) (smallest b rs)) rs) (lesser_is a (number_of r) k)
    (smallest_either b rs (lesser_least a (number_of r) (leb-true 1 (number_of r) e.0)) e.1)

-- one of them where there is one
pub smallest_found : (rs : List (List ℕ)) → every has_number rs ≡ true → 1 ≤ length rs → any (λ (r : List ℕ). eqb (number_of r) (smallest 0 rs)) rs ≡ true
unfolding smallest every any
smallest_found [] h k = absurd (omega arith)
smallest_found (r ∷ rs) h k =
    let e = and_both (has_number r) (every has_number rs) h in
    let n : 1 ≤ number_of r = leb-true 1 (number_of r) e.0 in
    subst (λ (x : ℕ). (eqb (number_of r) (smallest x rs) || any (λ (y : List ℕ). eqb (number_of y) (smallest x rs)) rs) ≡ true) (lesser_none 0 (number_of r) refl) (smallest_either (number_of r) rs n e.1)

-- 0 exactly where there is none
pub smallest_nothing : smallest 0 [] ≡ 0
unfolding smallest
smallest_nothing = refl

pub smallest_some : (rs : List (List ℕ)) → every has_number rs ≡ true → 1 ≤ length rs → 1 ≤ smallest 0 rs
unfolding smallest every
smallest_some [] h k = absurd (omega arith)
smallest_some (r ∷ rs) h k =
    let e = and_both (has_number r) (every has_number rs) h in
    (smallest_from (lesser 0 (number_of r)) rs e.1 (lesser_least 0 (number_of r) (leb-true 1 (number_of r) e.0))).0

pub smallest_empty : (rs : List (List ℕ)) → every has_number rs ≡ true → smallest 0 rs ≡ 0 → rs ≡ []
smallest_empty [] h e = refl
smallest_empty (r ∷ rs) h e = absurd (omega (arith, smallest_some (r ∷ rs) h (omega arith)))

-- the greatest is at least the greatest so far, and each number
greatest_from : (a : ℕ) (rs : List (List ℕ)) → a ≤ greatest a rs
unfolding greatest
greatest_from a [] = omega arith
greatest_from a (r ∷ rs) = let e : max a (number_of r) ≤ greatest (max a (number_of r)) rs = greatest_from (max a (number_of r)) rs in omega arith

greatest_each : (a : ℕ) (rs : List (List ℕ)) → every (number_at_most (greatest a rs)) rs ≡ true
unfolding greatest every
greatest_each a [] = refl
greatest_each a (r ∷ rs) =
    let e : max a (number_of r) ≤ greatest (max a (number_of r)) rs = greatest_from (max a (number_of r)) rs in
    let f : number_of r ≤ greatest (max a (number_of r)) rs = omega arith in
    rw (le-leb (number_of r) (greatest (max a (number_of r)) rs) f) (greatest_each (max a (number_of r)) rs)

pub greatest_all : (rs : List (List ℕ)) → every (number_at_most (greatest 0 rs)) rs ≡ true
greatest_all rs = greatest_each 0 rs

-- and at most n where each is
greatest_under : (a n : ℕ) (rs : List (List ℕ)) → a ≤ n → every (number_at_most n) rs ≡ true → greatest a rs ≤ n
unfolding greatest every
greatest_under a n [] k h = k
greatest_under a n (r ∷ rs) k h =
    let e = and_both (number_at_most n r) (every (number_at_most n) rs) h in
    let f : number_of r ≤ n = leb-true (number_of r) n e.0 in
    greatest_under (max a (number_of r)) n rs (omega arith) e.1

pub greatest_most : (n : ℕ) (rs : List (List ℕ)) → every (number_at_most n) rs ≡ true → greatest 0 rs ≤ n
greatest_most n rs h = greatest_under 0 n rs (omega arith) h

-- the smaller of two numbers, where 0 is none on either side
unfoldable pub least : ℕ → ℕ → ℕ
least zero b = b
least (suc a) zero = suc a
least (suc a) (suc b) = suc (min a b)

least_none : (a : ℕ) → least a 0 ≡ a
unfolding least
least_none zero = refl
least_none (suc a) = refl

least_comm : (a b : ℕ) → least a b ≡ least b a
unfolding least
least_comm zero zero = refl
least_comm zero (suc b) = refl
least_comm (suc a) zero = refl
least_comm (suc a) (suc b) = omega arith

least_assoc : (a b c : ℕ) → least (least a b) c ≡ least a (least b c)
unfolding least
least_assoc zero b c = refl
least_assoc (suc a) zero c = refl
least_assoc (suc a) (suc b) zero = refl
least_assoc (suc a) (suc b) (suc c) = omega arith

least_twice : (n a b : ℕ) → least n (least a b) ≡ least (least n a) (least n b)
unfolding least
least_twice zero a b = refl
least_twice (suc n) zero zero = omega arith
least_twice (suc n) zero (suc b) = omega arith
least_twice (suc n) (suc a) zero = omega arith
least_twice (suc n) (suc a) (suc b) = omega arith

-- a number that is there is taken in alike
least_new : (a b : ℕ) → 1 ≤ b → lesser a b ≡ least a b
unfolding least
least_new zero b h = sym (lesser_none 0 b refl)
least_new (suc a) zero h = absurd (omega arith)
least_new (suc a) (suc b) h = go (lesser_is (suc a) (suc b) (omega arith))
  where
    go : ((lesser (suc a) (suc b) ≡ suc a) × (suc a ≤ suc b)) ⊎ ((lesser (suc a) (suc b) ≡ suc b) × (suc b ≤ suc a)) → lesser (suc a) (suc b) ≡ suc (min a b)
    go (inl e) = omega (arith, e.0, e.1)
    go (inr e) = omega (arith, e.0, e.1)

-- so the smallest of rows after a number is the smaller of the two
smallest_least : (a : ℕ) (rs : List (List ℕ)) → every has_number rs ≡ true → smallest a rs ≡ least a (smallest 0 rs)
unfolding smallest every
smallest_least a [] h = sym (least_none a)
smallest_least a (r ∷ rs) h =
    let e = and_both (has_number r) (every has_number rs) h in
    let n : ℕ = number_of r in
    let least_rest : smallest (lesser 0 n) rs ≡ least n (smallest 0 rs) = smallest_least (lesser 0 n) rs e.1 ∙ ap (λ (x : ℕ). least x (smallest 0 rs)) (sym (lesser_none 0 n refl)) in
    smallest_least (lesser a n) rs e.1
    ∙ ap (λ (x : ℕ). least x (smallest 0 rs)) (least_new a n (leb-true 1 n e.0))
    ∙ least_assoc a n (smallest 0 rs) ∙ ap (λ (x : ℕ). least a x) (sym least_rest)

smallest_one : (r : List ℕ) (l : List (List ℕ)) → every has_number l ≡ true → smallest 0 (r ∷ l) ≡ least (number_of r) (smallest 0 l)
unfolding smallest
smallest_one r l h = smallest_least (lesser 0 (number_of r)) l h ∙ ap (λ (x : ℕ). least x (smallest 0 l)) (sym (lesser_none 0 (number_of r) refl))

-- of rows that pass one of two tests, the smallest is the smaller of the two
pub smallest_split : (b d u : List ℕ → Bool) → ((r : List ℕ) → u r ≡ (b r || d r)) → (l : List (List ℕ)) → every has_number l ≡ true → smallest 0 (keep u l) ≡ least (smallest 0 (keep b l)) (smallest 0 (keep d l))
unfolding keep every least
smallest_split b d u f [] h = sym (ap (λ (x : ℕ). least x (smallest 0 [])) smallest_nothing)
smallest_split b d u f (r ∷ l) h =
    let e = and_both (has_number r) (every has_number l) h in
    ap (λ (t : Bool). smallest 0 (cons_if t r (keep u l))) (f r) ∙ go (b r) (d r) (every_keep u has_number l e.1) (every_keep b has_number l e.1) (every_keep d has_number l e.1) (smallest_split b d u f l e.1)
  where
    go : (x y : Bool) → every has_number (keep u l) ≡ true → every has_number (keep b l) ≡ true → every has_number (keep d l) ≡ true → smallest 0 (keep u l) ≡ least (smallest 0 (keep b l)) (smallest 0 (keep d l))
        → smallest 0 (cons_if (x || y) r (keep u l)) ≡ least (smallest 0 (cons_if x r (keep b l))) (smallest 0 (cons_if y r (keep d l)))
    go true true hu hb hd i = smallest_one r (keep u l) hu ∙ ap (λ (x : ℕ). least (number_of r) x) i ∙ least_twice (number_of r) (smallest 0 (keep b l)) (smallest 0 (keep d l)) ∙ sym (λ j. least (smallest_one r (keep b l) hb j) (smallest_one r (keep d l) hd j))
    go true false hu hb hd i = smallest_one r (keep u l) hu ∙ ap (λ (x : ℕ). least (number_of r) x) i ∙ sym (least_assoc (number_of r) (smallest 0 (keep b l)) (smallest 0 (keep d l))) ∙ sym (ap (λ (x : ℕ). least x (smallest 0 (keep d l))) (smallest_one r (keep b l) hb))
    go false true hu hb hd i =
        smallest_one r (keep u l) hu ∙ ap (λ (x : ℕ). least (number_of r) x) (i ∙ least_comm (smallest 0 (keep b l)) (smallest 0 (keep d l)))
        ∙ sym (least_assoc (number_of r) (smallest 0 (keep d l)) (smallest 0 (keep b l))) ∙ least_comm (least (number_of r) (smallest 0 (keep d l))) (smallest 0 (keep b l))
        ∙ sym (ap (λ (x : ℕ). least (smallest 0 (keep b l)) x) (smallest_one r (keep d l) hd))
    go false false hu hb hd i = i
