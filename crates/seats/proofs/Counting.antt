-- How many entries are in a frame and how often the use order names it, after each change of either; and that frames named once are no more than there are.
-- The steps of `Places` need it: they change one entry, free one frame or touch one.
use Prim.Native.Nat.{ℕ, zero, suc, ◌+◌, ◌/◌, ◌%◌, ◌≤◌, ◌<◌}
use native.Mathlib.Omega.{arith}
use mathlib.Core.Path.{◌≡◌, refl, sym, ap, ◌∙◌}
use mathlib.Core.Bool.{Bool, true, false, cond}
use mathlib.Core.List.{List, [], ◌∷◌, ◌++◌, map}
use lib.ListN.{length, get_or, set}
use lib.Dec.{eqb, ltb}
use borrow.Author.Tests.{ltb-true, eqb-true, eqb-false, lt-ltb, eq-eqb, ne_eqb}
use Rattle.word.proofs.Tests.{and_both}
use Rattle.record.specs.Rows.{cons_if, keep}
use Rattle.order.specs.Order.{without, touched}
use Rattle.rules.specs.Sound.{every, serving, times}
use Rattle.rules.specs.Steps.{freed}

-- one more at the front
length_cons_if : (b : Bool) (x : ℕ) (l : List ℕ) → length (cons_if b x l) ≡ cond b 1 0 + length l
length_cons_if true x l = omega arith
length_cons_if false x l = omega arith

pub times_none : (g : ℕ) → times g [] ≡ 0
unfolding times keep
times_none g = refl

times_cons : (g x : ℕ) (o : List ℕ) → times g (x ∷ o) ≡ cond (eqb x g) 1 0 + times g o
unfolding times keep
times_cons g x o = length_cons_if (eqb x g) x (keep (λ (y : ℕ). eqb y g) o)

pub serving_none : (g : ℕ) → serving g [] ≡ 0
unfolding serving keep
serving_none g = refl

pub serving_cons : (g x : ℕ) (es : List ℕ) → serving g (x ∷ es) ≡ cond (eqb (x / 2) (g + 1)) 1 0 + serving g es
unfolding serving keep
serving_cons g x es = length_cons_if (eqb (x / 2) (g + 1)) x (keep (λ (y : ℕ). eqb (y / 2) (g + 1)) es)

none_either : (c : Bool) (n : ℕ) → n ≡ 0 → n ≡ cond c 0 n
none_either true n e = e
none_either false n e = refl

-- a frame that left the order is named no more, the others as before
pub times_without : (g f : ℕ) (o : List ℕ) → times g (without f o) ≡ cond (eqb g f) 0 (times g o)
unfolding without
times_without g f [] = none_either (eqb g f) (times g []) (times_none g)
times_without g f (x ∷ o) =
    rw (times_cons g x o) (go (eqb x f) (eqb g f) (eqb x g) refl refl refl (times_without g f o))
  where
    go : (a c b : Bool) → eqb x f ≡ a → eqb g f ≡ c → eqb x g ≡ b → times g (without f o) ≡ cond c 0 (times g o) → times g (cond a (without f o) (x ∷ without f o)) ≡ cond c 0 (cond b 1 0 + times g o)
    go true true b p q r h = h
    go true false true p q r h = absurd (eqb-false g f q (omega (arith, eqb-true x f p, eqb-true x g r)))
    go true false false p q r h = omega arith
    go false true true p q r h = absurd (eqb-false x f p (omega (arith, eqb-true g f q, eqb-true x g r)))
    go false true false p q r h = omega (arith, rw r at (times_cons g x (without f o)))
    go false false true p q r h = omega (arith, rw r at (times_cons g x (without f o)))
    go false false false p q r h = omega (arith, rw r at (times_cons g x (without f o)))

times_append : (g : ℕ) (o k : List ℕ) → times g (o ++ k) ≡ times g o + times g k
times_append g [] k = omega (arith, times_none g)
times_append g (x ∷ o) k = omega (arith, times_cons g x (o ++ k), times_cons g x o, times_append g o k)

-- a frame that was touched is named once, the others as before
pub times_touched : (g f : ℕ) (o : List ℕ) → times g (touched f o) ≡ cond (eqb g f) 1 (times g o)
unfolding touched
times_touched g f o =
    go (eqb g f) (eqb f g) refl refl (times_append g (without f o) (f ∷ []) ∙ ap (λ (n : ℕ). n + times g (f ∷ [])) (times_without g f o))
  where
    go : (c d : Bool) → eqb g f ≡ c → eqb f g ≡ d → times g (without f o ++ (f ∷ [])) ≡ cond (eqb g f) 0 (times g o) + times g (f ∷ []) → times g (without f o ++ (f ∷ [])) ≡ cond c 1 (times g o)
    go true true p q h = omega (arith, rw p at h, rw q at (times_cons g f []), times_none g)
    go false false p q h = omega (arith, rw p at h, rw q at (times_cons g f []), times_none g)
    go true false p q h = absurd (eqb-false f g q (sym (eqb-true g f p)))
    go false true p q h = absurd (eqb-false g f p (sym (eqb-true f g q)))

-- an entry that is set is counted for its new value and no more for its old one
count_set : (b : ℕ → Bool) (l : List ℕ) (i v : ℕ) → i < length l → length (keep b (set l i v)) + cond (b (get_or l i 0)) 1 0 ≡ length (keep b l) + cond (b v) 1 0
unfolding keep
count_set b [] i v h = absurd (omega arith)
count_set b (x ∷ l) zero v h = omega (arith, length_cons_if (b v) v (keep b l), length_cons_if (b x) x (keep b l))
count_set b (x ∷ l) (suc i) v h =
    omega (arith, length_cons_if (b x) x (keep b l), length_cons_if (b x) x (keep b (set l i v)), count_set b l i v (omega arith))

pub serving_set : (f : ℕ) (es : List ℕ) (p e : ℕ) → p < length es → serving f (set es p e) + cond (eqb (get_or es p 0 / 2) (f + 1)) 1 0 ≡ serving f es + cond (eqb (e / 2) (f + 1)) 1 0
unfolding serving
serving_set f es p e h = count_set (λ (x : ℕ). eqb (x / 2) (f + 1)) es p e h

-- an entry in a frame counts for that frame
pub serving_at : (f : ℕ) (es : List ℕ) (p : ℕ) → p < length es → get_or es p 0 / 2 ≡ f + 1 → serving f es ≡ serving f (set es p 0) + 1
serving_at f es p h e =
    let k = serving_set f es p 0 h in
    let z = ne_eqb 0 (f + 1) (λ q. omega arith) in
    omega (arith, rw (eq-eqb (get_or es p 0 / 2) (f + 1) e, z) at k)

-- after frame f was freed it serves no page, the others as before
pub serving_freed : (g f : ℕ) (es : List ℕ) → serving g (map (freed f) es) ≡ cond (eqb g f) 0 (serving g es)
serving_freed g f [] = none_either (eqb g f) (serving g []) (serving_none g)
serving_freed g f (x ∷ es) =
    rw (serving_cons g x es, serving_cons g (freed f x) (map (freed f) es))
    (go (eqb (x / 2) (f + 1)) (eqb g f) (eqb (x / 2) (g + 1)) refl refl refl (serving_freed g f es))
  where
    left_out : eqb (x % 2 / 2) (g + 1) ≡ false
    left_out = ne_eqb (x % 2 / 2) (g + 1) (λ e. omega arith)

    go : (a c b : Bool) → eqb (x / 2) (f + 1) ≡ a → eqb g f ≡ c → eqb (x / 2) (g + 1) ≡ b → serving g (map (freed f) es) ≡ cond c 0 (serving g es) → cond (eqb (cond a (x % 2) x / 2) (g + 1)) 1 0 + serving g (map (freed f) es) ≡ cond c 0 (cond b 1 0 + serving g es)
    go true true b p q r h = rw left_out (omega arith)
    go true false true p q r h = absurd (eqb-false g f q (omega (arith, eqb-true (x / 2) (f + 1) p, eqb-true (x / 2) (g + 1) r)))
    go true false false p q r h = rw left_out (omega arith)
    go false true true p q r h = absurd (eqb-false (x / 2) (f + 1) p (omega (arith, eqb-true g f q, eqb-true (x / 2) (g + 1) r)))
    go false true false p q r h = rw r (omega arith)
    go false false b p q r h = rw r (omega arith)

-- frames below n, each named once at most, are n at most
length_parts : (f : ℕ) (o : List ℕ) → length o ≡ times f o + length (without f o)
unfolding without
length_parts f [] = omega (arith, times_none f)
length_parts f (x ∷ o) = go (eqb x f) refl (length_parts f o)
  where
    go : (b : Bool) → eqb x f ≡ b → length o ≡ times f o + length (without f o) → suc (length o) ≡ times f (x ∷ o) + length (cond b (without f o) (x ∷ without f o))
    go true p h = omega (arith, rw p at (times_cons f x o))
    go false p h = omega (arith, rw p at (times_cons f x o))

below_without : (n : ℕ) (o : List ℕ) → every (λ (f : ℕ). ltb f (suc n)) o ≡ true → every (λ (f : ℕ). ltb f n) (without n o) ≡ true
unfolding every without
below_without n [] h = refl
below_without n (x ∷ o) h =
    let k = and_both (ltb x (suc n)) (every (λ (f : ℕ). ltb f (suc n)) o) h in
    go (eqb x n) refl (ltb-true x (suc n) k.0) (below_without n o k.1)
  where
    go : (b : Bool) → eqb x n ≡ b → x < suc n → every (λ (f : ℕ). ltb f n) (without n o) ≡ true → every (λ (f : ℕ). ltb f n) (cond b (without n o) (x ∷ without n o)) ≡ true
    go true p q r = r
    go false p q r =
        let d = eqb-false x n p in
        let s : x < n = omega arith in
        rw (lt-ltb x n s) r

pub pigeonhole : (n : ℕ) (o : List ℕ) → every (λ (f : ℕ). ltb f n) o ≡ true → ((f : ℕ) → f < n → times f o ≤ 1) → length o ≤ n
unfolding every
pigeonhole zero [] h k = omega arith
pigeonhole zero (x ∷ o) h k = absurd (omega (arith, ltb-true x 0 (and_both (ltb x 0) (every (λ (f : ℕ). ltb f 0) o) h).0))
pigeonhole (suc n) o h k =
    omega (arith, length_parts n o, k n (omega arith), pigeonhole n (without n o) (below_without n o h) (λ f q. go f q (eqb f n) (k f (omega arith)) (times_without f n o)))
  where
    go : (f : ℕ) → f < n → (b : Bool) → times f o ≤ 1 → times f (without n o) ≡ cond b 0 (times f o) → times f (without n o) ≤ 1
    go f q true r e = omega arith
    go f q false r e = omega arith
