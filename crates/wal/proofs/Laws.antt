-- Laws of the fields and the sums.
use Rattle.std.proofs.Common.{◌≡◌, ℕ, suc, ◌+◌, ◌-◌, ◌*◌, ◌%◌, ◌^◌, ◌<◌, ◌≤◌, Bool, List, ap, ◌∙◌, arith}
use Rattle.wal.specs.declared.Sums.{Sums}
use Rattle.wal.specs.Sum.{word_at, first_sum, paired, summed}

-- a sum of three, wrapped at each step
wrapped : (a x b : ℕ) → ((a + x) % 2 ^ 32 + b) % 2 ^ 32 ≡ (a + x + b) % 2 ^ 32
wrapped a x b = omega arith

pub pair_wrapped : (s : Sums) (x y : ℕ) → record { s0 = ((s.s0 + x) % 2 ^ 32 + s.s1) % 2 ^ 32; s1 = ((s.s1 + y) % 2 ^ 32 + ((s.s0 + x) % 2 ^ 32 + s.s1) % 2 ^ 32) % 2 ^ 32 } ≡ paired s x y
unfolding paired
pair_wrapped s x y = rw (wrapped s.s0 x s.s1, wrapped s.s1 y (first_sum s x))

-- `sum`: its start, a turn, its end
pub sum_none : (big : Bool) (n : ℕ) (l : List ℕ) (at : ℕ) (s : Sums) → summed big (n - 0) l (at + 8 * 0) s ≡ summed big n l at s
sum_none big n l at s =
    let a : n - 0 ≡ n = omega arith in
    let b : at + 8 * 0 ≡ at = omega arith in
    ap (λ (k : ℕ). summed big k l (at + 8 * 0) s) a ∙ ap (λ (k : ℕ). summed big n l k s) b

pub sum_turn : (big : Bool) (n i at x y : ℕ) (l : List ℕ) (s r t : Sums) → i < n → x ≡ word_at big l (at + 8 * i) → y ≡ word_at big l (at + 8 * i + 4) → r ≡ paired s x y → summed big (n - i) l (at + 8 * i) s ≡ t → summed big (n - (i + 1)) l (at + 8 * (i + 1)) r ≡ t
unfolding summed
sum_turn big n i at x y l s r t p ex ey er inv =
    let a : n - i ≡ suc (n - (i + 1)) = omega arith in
    let b : at + 8 * (i + 1) ≡ at + 8 * i + 8 = omega arith in
    ap (λ (k : ℕ). summed big (n - (i + 1)) l k r) b
    ∙ ap (λ (z : Sums). summed big (n - (i + 1)) l (at + 8 * i + 8) z) (er ∙ ap (λ (z : ℕ). paired s z y) ex ∙ ap (λ (z : ℕ). paired s (word_at big l (at + 8 * i)) z) ey)
    ∙ (rw a at inv)

pub sum_done : (big : Bool) (n i at : ℕ) (l : List ℕ) (s t : Sums) → n ≤ i → summed big (n - i) l (at + 8 * i) s ≡ t → s ≡ t
unfolding summed
sum_done big n i at l s t p inv =
    let a : n - i ≡ 0 = omega arith in
    rw a at inv
