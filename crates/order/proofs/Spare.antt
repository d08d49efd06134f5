-- An order's slots are zero behind the frames in use.
use Prim.Native.Nat.{ℕ, suc, ◌+◌, ◌-◌, ◌≤◌, ◌<◌}
use native.Mathlib.Omega.{arith}
use mathlib.Core.Path.{◌≡◌, ap, ◌∙◌}
use mathlib.Core.List.{List, ◌∷◌, ◌++◌}
use native.Mathlib.Nat.{le_refl}
use lib.ListN.{length, drop, set, replicate, drop_of_length-le, length-append, length-replicate}
use Rattle.std.proofs.lemmas.List.{drop-replicate, drop-set-lt, drop-set, drop-drop, length-drop}
use Rattle.std.proofs.lemmas.Slice.{drop-append-drop}

-- zeros from a place on are zeros from a later one on
spare_past : (n d k : ℕ) (s : List ℕ) → drop n s ≡ replicate (k - n) 0 → drop (n + d) s ≡ replicate (k - (n + d)) 0
spare_past n d k s e =
    let b : (k - n) - d ≡ k - (n + d) = omega arith in
    rw (← drop-drop d n s, e, ← b) (drop-replicate d (k - n) 0)

pub spare_on : (n m k : ℕ) (s : List ℕ) → n ≤ m → drop n s ≡ replicate (k - n) 0 → drop m s ≡ replicate (k - m) 0
spare_on n m k s p e = let a : n + (m - n) ≡ m = omega arith in rw a at (spare_past n (m - n) k s e)

-- a slot written before them leaves them
pub spare_set : (n i k v : ℕ) (s : List ℕ) → i < n → drop n s ≡ replicate (k - n) 0 → drop n (set s i v) ≡ replicate (k - n) 0
spare_set n i k v s p e = drop-set-lt n s i v p ∙ e

-- a zero before them is one more
pub spare_more : (n k : ℕ) (s : List ℕ) → n < length s → n < k → drop (n + 1) s ≡ replicate (k - (n + 1)) 0 → drop n (set s n 0) ≡ replicate (k - n) 0
spare_more n k s p q e =
    let a : k - n ≡ suc (k - (n + 1)) = omega arith in
    rw a (drop-set s n 0 p ∙ ap (λ (l : List ℕ). 0 ∷ l) e)

-- a full row of slots has none of them
pub spare_none : (n k : ℕ) (s : List ℕ) → length s ≡ k → k ≤ n → drop n s ≡ replicate (k - n) 0
spare_none n k s p q =
    let a : k - n ≡ 0 = omega arith in
    rw a (drop_of_length-le s {i = n} (omega (arith, p)))

-- zeros with the first n written over
pub spare_after : (n k : ℕ) (l : List ℕ) → length l ≡ n → drop n (l ++ drop n (replicate k 0)) ≡ replicate (k - n) 0
spare_after n k l p = drop-append-drop n (replicate k 0) l n (le_refl n) p ∙ drop-replicate n k 0

pub length_after : (n k : ℕ) (l : List ℕ) → length l ≡ n → n ≤ k → length (l ++ drop n (replicate k 0)) ≡ k
length_after n k l p q = omega (arith, p, length-append {A = ℕ} l (drop n (replicate k 0)), length-drop {A = ℕ} n (replicate k 0), length-replicate {A = ℕ} k 0)

pub fits_after : (n k : ℕ) (l : List ℕ) → length l ≡ n → n ≤ k → n ≤ length (l ++ drop n (replicate k 0))
fits_after n k l p q = rw (length_after n k l p q) q
