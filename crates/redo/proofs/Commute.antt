-- Changes that share no byte commute, at any lengths. Updates of two live owners share none, so neither sees which was made first.
use Prim.Native.Nat.{ℕ, ◌+◌, ◌≤◌, ◌<◌}
use native.Mathlib.Omega.{arith}
use mathlib.Core.Path.{◌≡◌, refl, sym, ◌∙◌}
use mathlib.Core.Logic.{◌⊎◌, inl, inr, ⊎_elim}
use mathlib.Core.Bool.{Bool, true, false, ◌&&◌}
use mathlib.Core.List.{List}
use lib.ListN.{get_or}
use lib.Seq.{ext_get_or}
use lib.Dec.{ltb, leb}
use borrow.Author.Tests.{ltb-true, ltb-false, leb-true, leb-false, eq-eqb}
use Rattle.record.specs.Record.{page_of, offset_of, length_of, kind_of, value_of, change, apply, share_byte}
use Rattle.record.proofs.Changes.{length_change}
use Rattle.redo.proofs.Bytes.{Outside, Agree, change_outside, change_inside}

-- two ranges share no byte: one ends before the other starts
abbrev pub Disjoint : ℕ → ℕ → ℕ → ℕ → Type 0
Disjoint a m b n = (a + m ≤ b) ⊎ (b + n ≤ a)

-- a place is in a range or outside it
pub place : (a n i : ℕ) → ((a ≤ i) × (i < a + n)) ⊎ Outside a n i
place a n i = go (leb a i) (ltb i (a + n)) refl refl
  where
    go : (s t : Bool) → leb a i ≡ s → ltb i (a + n) ≡ t → ((a ≤ i) × (i < a + n)) ⊎ Outside a n i
    go false t e f = inr (inl (leb-false a i e))
    go true true e f = inl (leb-true a i e, ltb-true i (a + n) f)
    go true false e f = inr (inr (ltb-false i (a + n) f))

-- what is in one of two such ranges is outside the other
pub disjoint_outside : (a m b n i : ℕ) → Disjoint a m b n → b ≤ i → i < b + n → Outside a m i
disjoint_outside a m b n i (inl h) p q = inr (omega arith)
disjoint_outside a m b n i (inr h) p q = inl (omega arith)

module _ (o₁ w₁ k₁ v₁ o₂ w₂ k₂ v₂ : ℕ) (d : Disjoint o₁ w₁ o₂ w₂) (g : List ℕ) where
  first : List ℕ → List ℕ
  first l = change o₁ w₁ k₁ v₁ l

  second : List ℕ → List ℕ
  second l = change o₂ w₂ k₂ v₂ l

  -- the second change writes what it would have written without the first
  unseen : Agree o₂ w₂ (second (first g)) (second g)
  unfolding first second
  unseen = change_inside o₂ w₂ k₂ v₂ (first g) g (length_change o₁ w₁ k₁ v₁ g) (λ i p q. change_outside o₁ w₁ k₁ v₁ g i (disjoint_outside o₁ w₁ o₂ w₂ i d p q))

  -- so outside the first's range the order is not seen
  pub unseen_outside : (i : ℕ) → Outside o₁ w₁ i → get_or (change o₁ w₁ k₁ v₁ (change o₂ w₂ k₂ v₂ g)) i 0 ≡ get_or (change o₂ w₂ k₂ v₂ (change o₁ w₁ k₁ v₁ g)) i 0
  unfolding first second
  unseen_outside i h = change_outside o₁ w₁ k₁ v₁ (second g) i h ∙ sym (⊎_elim (λ q. unseen i q.0 q.1) beside (place o₂ w₂ i))
    where
      beside : Outside o₂ w₂ i → get_or (second (first g)) i 0 ≡ get_or (second g) i 0
      beside q = change_outside o₂ w₂ k₂ v₂ (first g) i q ∙ change_outside o₁ w₁ k₁ v₁ g i h ∙ sym (change_outside o₂ w₂ k₂ v₂ g i q)

disjoint_sym : (a m b n : ℕ) → Disjoint a m b n → Disjoint b n a m
disjoint_sym a m b n (inl h) = inr h
disjoint_sym a m b n (inr h) = inl h

-- changes that share no byte commute
pub change_commutes : (o₁ w₁ k₁ v₁ o₂ w₂ k₂ v₂ : ℕ) → Disjoint o₁ w₁ o₂ w₂ → (g : List ℕ) → change o₁ w₁ k₁ v₁ (change o₂ w₂ k₂ v₂ g) ≡ change o₂ w₂ k₂ v₂ (change o₁ w₁ k₁ v₁ g)
change_commutes o₁ w₁ k₁ v₁ o₂ w₂ k₂ v₂ d g =
    ext_get_or 0 one other
    (length_change o₁ w₁ k₁ v₁ (change o₂ w₂ k₂ v₂ g) ∙ length_change o₂ w₂ k₂ v₂ g ∙ sym (length_change o₁ w₁ k₁ v₁ g) ∙ sym (length_change o₂ w₂ k₂ v₂ (change o₁ w₁ k₁ v₁ g)))
    (λ i h. at i)
  where
    one : List ℕ
    one = change o₁ w₁ k₁ v₁ (change o₂ w₂ k₂ v₂ g)

    other : List ℕ
    other = change o₂ w₂ k₂ v₂ (change o₁ w₁ k₁ v₁ g)

    d' : Disjoint o₂ w₂ o₁ w₁
    d' = disjoint_sym o₁ w₁ o₂ w₂ d

    at : (i : ℕ) → get_or one i 0 ≡ get_or other i 0
    at i =
        ⊎_elim
        (λ q. sym (unseen_outside o₂ w₂ k₂ v₂ o₁ w₁ k₁ v₁ d' g i (disjoint_outside o₂ w₂ o₁ w₁ i d' q.0 q.1)))
        (λ q. unseen_outside o₁ w₁ k₁ v₁ o₂ w₂ k₂ v₂ d g i q)
        (place o₁ w₁ i)

-- the ranges of two records of a page that share no byte
pub ranges : (a m b n : ℕ) → (ltb a (b + n) && ltb b (a + m)) ≡ false → Disjoint a m b n
ranges a m b n h = go (ltb a (b + n)) (ltb b (a + m)) refl refl h
  where
    go : (s t : Bool) → ltb a (b + n) ≡ s → ltb b (a + m) ≡ t → (s && t) ≡ false → Disjoint a m b n
    go false t e f z = inr (ltb-false a (b + n) e)
    go true false e f z = inl (ltb-false b (a + m) f)
    go true true e f z = let y : ◌≡◌ {A = ℕ} 0 1 = cc in absurd (omega arith)

pub apart_ranges : (a b : List ℕ) → share_byte a b ≡ false → page_of a ≡ page_of b → Disjoint (offset_of a) (length_of a) (offset_of b) (length_of b)
unfolding share_byte
apart_ranges a b h e = ranges (offset_of a) (length_of a) (offset_of b) (length_of b) (rw (eq-eqb (page_of a) (page_of b) e) at h)

-- records of a page that share no byte commute
pub apply_commutes : (a b : List ℕ) → share_byte a b ≡ false → page_of a ≡ page_of b → (g : List ℕ) → apply a (apply b g) ≡ apply b (apply a g)
unfolding apply
apply_commutes a b h e g =
    change_commutes (offset_of a) (length_of a) (kind_of a) (value_of a) (offset_of b) (length_of b) (kind_of b) (value_of b) (apart_ranges a b h e) g
