-- Tests of the numbers from a place on, and the turns of the loops that ask a test of each number, each row or each two rows.
use Prim.Native.Nat.{ℕ, zero, suc, ◌+◌, ◌-◌, ◌≤◌, ◌<◌}
use native.Mathlib.Omega.{arith}
use mathlib.Core.Path.{◌≡◌, refl, sym, ap, ◌∙◌}
use mathlib.Core.Bool.{Bool, true, false, not, ◌&&◌, and-true, and_assoc}
use mathlib.Core.List.{List}
use lib.Dec.{eqb}
use borrow.Author.Tests.{eqb-true, eqb-false}
use Rattle.word.proofs.Tests.{and_both, and_swap, so, not_so}
use Rattle.record.specs.Rows.{row_at, rows}
use Rattle.rules.specs.Sound.{every, pairs, up_to}

pub not_both : (x : Bool) → x ≡ true → x ≡ false → ⊥
not_both x a b = let z : ◌≡◌ {A = ℕ} 0 1 = cc in omega arith

-- tests of the n numbers from i on
pub up_to_at : (b : ℕ → Bool) (n i k : ℕ) → i ≤ k → k < i + n → up_to b n i ≡ true → b k ≡ true
unfolding up_to
up_to_at b zero i k p q h = absurd (omega arith)
up_to_at b (suc n) i k p q h = pick (eqb i k) refl (λ u. up_to_at b n (i + 1) k u (omega arith) (and_both (b i) (up_to b n (i + 1)) h).1)
  where
    pick : (x : Bool) → eqb i k ≡ x → (i + 1 ≤ k → b k ≡ true) → b k ≡ true
    pick true e f = rw (eqb-true i k e) at (and_both (b i) (up_to b n (i + 1)) h).0
    pick false e f =
        let d : (i ≡ k → ⊥) = eqb-false i k e in
        f (omega arith)

pub up_to_all : (b : ℕ → Bool) (n i : ℕ) → ((k : ℕ) → i ≤ k → k < i + n → b k ≡ true) → up_to b n i ≡ true
unfolding up_to
up_to_all b zero i f = refl
up_to_all b (suc n) i f = rw (f i (omega arith) (omega arith)) (up_to_all b n (i + 1) (λ k p q. f k (omega arith) (omega arith)))

pub up_to_not : (b : ℕ → Bool) (n i k : ℕ) → i ≤ k → k < i + n → b k ≡ false → up_to b n i ≡ false
up_to_not b n i k p q h = pick (up_to b n i) refl
  where
    pick : (x : Bool) → up_to b n i ≡ x → up_to b n i ≡ false
    pick true e = absurd (not_both (b k) (up_to_at b n i k p q e) h)
    pick false e = e

pub up_to_alike : (b d : ℕ → Bool) (n i : ℕ) → ((k : ℕ) → i ≤ k → k < i + n → b k ≡ d k) → up_to b n i ≡ up_to d n i
unfolding up_to
up_to_alike b d zero i f = refl
up_to_alike b d (suc n) i f =
    let e = f i (omega arith) (omega arith) in
    let g = up_to_alike b d n (i + 1) (λ k p q. f k (omega arith) (omega arith)) in
    rw (e, g)

pub up_to_both : (a b : ℕ → Bool) (n i : ℕ) → up_to (λ (p : ℕ). a p && b p) n i ≡ (up_to a n i && up_to b n i)
unfolding up_to
up_to_both a b zero i = refl
up_to_both a b (suc n) i = ap (λ (t : Bool). (a i && b i) && t) (up_to_both a b n (i + 1)) ∙ and_swap (a i) (b i) (up_to a n (i + 1)) (up_to b n (i + 1))

-- a loop over n numbers that joins what each test found: none looked at yet, a turn and the end
pub up_to_none : (b : ℕ → Bool) (n : ℕ) → up_to b (n - 0) 0 ≡ up_to b n 0
up_to_none b n = let e : n - 0 ≡ n = omega arith in rw e

pub up_to_joins : (b : ℕ → Bool) (n i : ℕ) (ok r x : Bool) → i < n → r ≡ b i → (ok && up_to b (n - i) i) ≡ x → (ok && r && up_to b (n - (i + 1)) (i + 1)) ≡ x
unfolding up_to
up_to_joins b n i ok r x p h inv =
    let e : n - i ≡ suc (n - (i + 1)) = omega arith in
    rw h (and_assoc ok (b i) (up_to b (n - (i + 1)) (i + 1)) ∙ (rw e at inv))

pub up_to_joined : (b : ℕ → Bool) (n i : ℕ) (ok x : Bool) → n ≤ i → (ok && up_to b (n - i) i) ≡ x → ok ≡ x
unfolding up_to
up_to_joined b n i ok x p inv =
    let e : n - i ≡ 0 = omega arith in
    sym (and-true ok) ∙ (rw e at inv)

-- a loop that leaves at the first row that fails a test: before it, at such a row, past a row that passes, at the end
pub every_none : (b : List ℕ → Bool) (w m : ℕ) (t : List ℕ) → every b (rows w (m - 0) t 0) ≡ every b (rows w m t 0)
every_none b w m t = let n : m - 0 ≡ m = omega arith in rw n

pub every_fail : (b : List ℕ → Bool) (w m : ℕ) (t : List ℕ) (i : ℕ) (x z : Bool) → i < m → not x ≡ true → x ≡ b (row_at w t i) → every b (rows w (m - i) t i) ≡ z → false ≡ z
unfolding every rows
every_fail b w m t i x z p h e inv =
    let n : m - i ≡ suc (m - (i + 1)) = omega arith in
    let f = not_so _ _ e h in
    rw (n, f) at inv

pub every_turn : (b : List ℕ → Bool) (w m : ℕ) (t : List ℕ) (i : ℕ) (x z : Bool) → i < m → not x ≡ false → x ≡ b (row_at w t i) → every b (rows w (m - i) t i) ≡ z → every b (rows w (m - (i + 1)) t (i + 1)) ≡ z
unfolding every rows
every_turn b w m t i x z p h e inv =
    let n : m - i ≡ suc (m - (i + 1)) = omega arith in
    let f = so _ _ e h in
    rw (n, f) at inv

pub every_done : (b : List ℕ → Bool) (w m : ℕ) (t : List ℕ) (i : ℕ) (z : Bool) → m ≤ i → every b (rows w (m - i) t i) ≡ z → true ≡ z
unfolding every rows
every_done b w m t i z p inv = let n : m - i ≡ 0 = omega arith in rw n at inv

-- the same for each two rows, where x says that a row passes with all later ones
pub pairs_none : (b : List ℕ → List ℕ → Bool) (w m : ℕ) (t : List ℕ) → pairs b (rows w (m - 0) t 0) ≡ pairs b (rows w m t 0)
pairs_none b w m t = let n : m - 0 ≡ m = omega arith in rw n

pub pairs_fail : (b : List ℕ → List ℕ → Bool) (w m : ℕ) (t : List ℕ) (i : ℕ) (x z : Bool) → i < m → not x ≡ true → x ≡ every (b (row_at w t i)) (rows w (m - (i + 1)) t (i + 1)) → pairs b (rows w (m - i) t i) ≡ z → false ≡ z
unfolding pairs rows
pairs_fail b w m t i x z p h e inv =
    let n : m - i ≡ suc (m - (i + 1)) = omega arith in
    let f = not_so _ _ e h in
    rw (n, f) at inv

pub pairs_turn : (b : List ℕ → List ℕ → Bool) (w m : ℕ) (t : List ℕ) (i : ℕ) (x z : Bool) → i < m → not x ≡ false → x ≡ every (b (row_at w t i)) (rows w (m - (i + 1)) t (i + 1)) → pairs b (rows w (m - i) t i) ≡ z → pairs b (rows w (m - (i + 1)) t (i + 1)) ≡ z
unfolding pairs rows
pairs_turn b w m t i x z p h e inv =
    let n : m - i ≡ suc (m - (i + 1)) = omega arith in
    let f = so _ _ e h in
    rw (n, f) at inv

pub pairs_done : (b : List ℕ → List ℕ → Bool) (w m : ℕ) (t : List ℕ) (i : ℕ) (z : Bool) → m ≤ i → pairs b (rows w (m - i) t i) ≡ z → true ≡ z
unfolding pairs rows
pairs_done b w m t i z p inv = let n : m - i ≡ 0 = omega arith in rw n at inv

-- the same for numbers
pub up_to_fail : (b : ℕ → Bool) (m i : ℕ) (x z : Bool) → i < m → not x ≡ true → x ≡ b i → up_to b (m - i) i ≡ z → false ≡ z
unfolding up_to
up_to_fail b m i x z p h e inv =
    let n : m - i ≡ suc (m - (i + 1)) = omega arith in
    let f = not_so _ _ e h in
    rw (n, f) at inv

pub up_to_turn : (b : ℕ → Bool) (m i : ℕ) (x z : Bool) → i < m → not x ≡ false → x ≡ b i → up_to b (m - i) i ≡ z → up_to b (m - (i + 1)) (i + 1) ≡ z
unfolding up_to
up_to_turn b m i x z p h e inv =
    let n : m - i ≡ suc (m - (i + 1)) = omega arith in
    let f = so _ _ e h in
    rw (n, f) at inv

pub up_to_done : (b : ℕ → Bool) (m i : ℕ) (z : Bool) → m ≤ i → up_to b (m - i) i ≡ z → true ≡ z
unfolding up_to
up_to_done b m i z p inv = let n : m - i ≡ 0 = omega arith in rw n at inv
