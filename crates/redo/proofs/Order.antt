-- Lists of records that differ by swaps of neighbours which are free of each other: the page does not see the difference.
-- The order made becomes the order committed by such swaps, and `stable_partition` makes them in one go.
use Prim.Native.Nat.{ℕ, ◌+◌}
use mathlib.Core.Path.{◌≡◌, refl, sym, ap, ◌∙◌}
use mathlib.Core.Bool.{Bool, true, false, cond, not, ◌&&◌, ◌||◌, and_comm}
use mathlib.Core.List.{List, [], ◌∷◌, ◌++◌}
use lib.Dec.{eqb, ltb}
use borrow.Author.Tests.{eqb-true, eqb-false, eq-eqb, ne_eqb, not-true}
use Rattle.word.proofs.Tests.{and_both}
use Rattle.record.specs.Rows.{keep, cons_if}
use Rattle.record.specs.Record.{page_of, offset_of, length_of, apply, applied, share_byte, free}
use Rattle.rules.proofs.Every.{every_kept_where, every_imp}
use Rattle.record.proofs.Changes.{applied_keep}
use Rattle.rules.specs.Sound.{every, pairs}
use Rattle.redo.proofs.Commute.{apply_commutes}

eqb_sym : (a b : ℕ) → eqb a b ≡ eqb b a
eqb_sym a b = go (eqb a b) refl
  where
    go : (t : Bool) → eqb a b ≡ t → eqb a b ≡ eqb b a
    go true e = e ∙ sym (eq-eqb b a (sym (eqb-true a b e)))
    go false e = e ∙ sym (ne_eqb b a (λ f. eqb-false a b e (sym f)))

share_byte_sym : (a b : List ℕ) → share_byte a b ≡ share_byte b a
unfolding share_byte
share_byte_sym a b = turn (eqb_sym (page_of a) (page_of b))
  where
    x : Bool
    x = ltb (offset_of a) (offset_of b + length_of b)

    y : Bool
    y = ltb (offset_of b) (offset_of a + length_of a)

    swapped : (q s t : Bool) → (q && s && t) ≡ (q && t && s)
    swapped true s t = and_comm s t
    swapped false s t = refl

    turn : eqb (page_of a) (page_of b) ≡ eqb (page_of b) (page_of a) → (eqb (page_of a) (page_of b) && x && y) ≡ (eqb (page_of b) (page_of a) && y && x)
    turn e = ap (λ (q : Bool). q && x && y) e ∙ swapped (eqb (page_of b) (page_of a)) x y

pub free_sym : (a b : List ℕ) → free a b ≡ true → free b a ≡ true
unfolding free
free_sym a b h = sym (ap not (share_byte_sym a b)) ∙ h

-- the one law that says why: those below go by `free` alone
pub free_commutes : (a b : List ℕ) → free a b ≡ true → page_of a ≡ page_of b → (g : List ℕ) → apply a (apply b g) ≡ apply b (apply a g)
unfolding free
free_commutes a b h e g = apply_commutes a b (not-true (share_byte a b) h) e g

-- the same records, but for swaps of neighbours that are free of each other
infix 4 ◌≈◌
pub data ◌≈◌ : List (List ℕ) → List (List ℕ) → Type 0 where
  as_is : {l : List (List ℕ)} → l ≈ l
  swap : (a b : List ℕ) (l : List (List ℕ)) → free a b ≡ true → a ∷ b ∷ l ≈ b ∷ a ∷ l
  behind : (a : List ℕ) {l m : List (List ℕ)} → l ≈ m → a ∷ l ≈ a ∷ m
  both : {l m n : List (List ℕ)} → l ≈ m → m ≈ n → l ≈ n

-- a page sees no difference, whichever of its records a test picks
pub ≈-picked : (p : ℕ) (c : List ℕ → Bool) → ((r : List ℕ) → c r ≡ true → page_of r ≡ p) → {l m : List (List ℕ)} → l ≈ m → (g : List ℕ) → applied (keep c l) g ≡ applied (keep c m) g
≈-picked p c on as_is g = refl
≈-picked p c on (swap a b l h) g =
    two a b ∙ ap (λ (x : List ℕ). applied (keep c l) x) (pick (c a) (c b) refl refl) ∙ sym (two b a)
  where
    two : (x y : List ℕ) → applied (keep c (x ∷ y ∷ l)) g ≡ applied (keep c l) (cond (c y) (apply y (cond (c x) (apply x g) g)) (cond (c x) (apply x g) g))
    two x y = applied_keep c x (y ∷ l) g ∙ applied_keep c y l (cond (c x) (apply x g) g)

    pick : (s t : Bool) → c a ≡ s → c b ≡ t → cond t (apply b (cond s (apply a g) g)) (cond s (apply a g) g) ≡ cond s (apply a (cond t (apply b g) g)) (cond t (apply b g) g)
    pick true true e f = sym (free_commutes a b h (on a e ∙ sym (on b f)) g)
    pick true false e f = refl
    pick false t e f = refl
≈-picked p c on (behind a {l} {m} e) g = applied_keep c a l g ∙ ≈-picked p c on e (cond (c a) (apply a g) g) ∙ sym (applied_keep c a m g)
≈-picked p c on (both e f) g = ≈-picked p c on e g ∙ ≈-picked p c on f g

-- a record moves past those that it is free of
pub ≈-move : (x : List ℕ) (k m : List (List ℕ)) → every (free x) k ≡ true → x ∷ k ++ m ≈ k ++ x ∷ m
unfolding every
≈-move x [] m h = as_is
≈-move x (y ∷ k) m h =
    let e : (free x y ≡ true) × (every (free x) k ≡ true) = and_both (free x y) (every (free x) k) h in
    both (swap x y (k ++ m) e.0) (behind y (≈-move x k m e.1))

-- x before y: where those that pass b are put first, the two keep their order, or are free of each other
abbrev pub parts : (List ℕ → Bool) → List ℕ → List ℕ → Bool
parts b x y = b x || not (b y) || free x y

-- those that pass a test before those that fail it, each in their order, if who fails is free of each later one that passes
pub stable_partition : (b : List ℕ → Bool) (l : List (List ℕ)) → pairs (parts b) l ≡ true → l ≈ keep b l ++ keep (λ (x : List ℕ). not (b x)) l
unfolding pairs keep
stable_partition b [] h = as_is
stable_partition b (x ∷ l) h =
    let s : (every (parts b x) l ≡ true) × (pairs (parts b) l ≡ true) = and_both (every (parts b x) l) (pairs (parts b) l) h in
    pick (b x) refl s.0 (behind x (stable_partition b l s.1))
  where
    rest : List (List ℕ)
    rest = keep (λ (y : List ℕ). not (b y)) l

    later : (y : List ℕ) → b y ≡ true → parts b x y ≡ true → b x ≡ false → free x y ≡ true
    later y p q e = rw (e, p) at q

    pick : (t : Bool) → b x ≡ t → every (parts b x) l ≡ true → x ∷ l ≈ x ∷ keep b l ++ rest → x ∷ l ≈ cons_if t x (keep b l) ++ cons_if (not t) x rest
    pick true e f i = i
    pick false e f i = both i (≈-move x (keep b l) rest (every_kept_where b (parts b x) (free x) (λ y p q. later y p q e) l f))

-- a test of each two implies another
pub pairs_imp : (b d : List ℕ → List ℕ → Bool) → ((x y : List ℕ) → b x y ≡ true → d x y ≡ true) → (l : List (List ℕ)) → pairs b l ≡ true → pairs d l ≡ true
unfolding pairs
pairs_imp b d f [] h = refl
pairs_imp b d f (x ∷ l) h =
    let e : (every (b x) l ≡ true) × (pairs b l ≡ true) = and_both (every (b x) l) (pairs b l) h in
    rw (every_imp (b x) (d x) (f x) l e.0) (pairs_imp b d f l e.1)
