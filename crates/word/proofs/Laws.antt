-- Laws of `num` and `put`, over the width.
use Prim.Native.Nat.{ℕ, zero, suc, ◌+◌, ◌*◌, ◌-◌, ◌/◌, ◌%◌, ◌^◌, ◌≤◌, ◌<◌}
use native.Mathlib.Omega.{arith}
use native.Mathlib.Nat.{pow-suc, pow-le-pow_right, lt_of_lt_of_le}
use mathlib.Core.Path.{◌≡◌, refl, sym, ◌∙◌}
use mathlib.Core.List.{List}
use lib.ListN.{length, get_or, set, length-set}
use Rattle.word.specs.Word.{num, put}

-- one byte more
pub num_suc : (w : ℕ) (l : List ℕ) (at : ℕ) → num (suc w) l at ≡ get_or l at 0 + 256 * num w l (at + 1)
unfolding num
num_suc w l at = refl

pub put_suc : (w : ℕ) (l : List ℕ) (at v : ℕ) → put (suc w) l at v ≡ put w (set l at (v % 256)) (at + 1) (v / 256)
unfolding put
put_suc w l at v = refl

pub length_put : (w : ℕ) (l : List ℕ) (at v : ℕ) → length (put w l at v) ≡ length l
unfolding put
length_put zero l at v = refl
length_put (suc w) l at v = length_put w (set l at (v % 256)) (at + 1) (v / 256) ∙ length-set l at (v % 256)

pub num_none : (s : List ℕ) (at w : ℕ) → 0 ≡ num (w - w) s (at + w)
unfolding num
num_none s at w = let a : w - w ≡ 0 = omega arith in rw a

pub put_none : (s : List ℕ) (at w v : ℕ) → put (w - 0) s (at + 0) v ≡ put w s at v
put_none s at w v =
    let a : w - 0 ≡ w = omega arith in
    let b : at + 0 ≡ at = omega arith in
    rw (a, b)

-- a turn of `load`: the byte below those passed
pub num_turn : (s : List ℕ) (at w i n : ℕ) → 0 < i → i ≤ w → n ≡ num (w - i) s (at + i) → n * 256 + get_or s (at + (i - 1)) 0 ≡ num (w - (i - 1)) s (at + (i - 1))
num_turn s at w i n p q e =
    let a : w - (i - 1) ≡ suc (w - i) = omega arith in
    let b : at + (i - 1) + 1 ≡ at + i = omega arith in
    rw (a, num_suc, b, ← e) (omega arith)

-- and it stays below the power
pub below_turn : (w i n b : ℕ) → 0 < i → i ≤ w → b < 256 → n < 256 ^ (w - i) → n * 256 + b < 256 ^ (w - (i - 1))
below_turn w i n b p q r h =
    let a : w - (i - 1) ≡ suc (w - i) = omega arith in
    rw (a, pow-suc) (omega arith)

-- a power of 256 with at most 7 bytes leaves room for one more
pub below_seven : (w i n : ℕ) → 0 < i → i ≤ w → w ≤ 8 → n < 256 ^ (w - i) → n < 256 ^ 7
below_seven w i n p q r h = lt_of_lt_of_le h (pow-le-pow_right {n = 256} (omega arith) {i = w - i} {j = 7} (omega arith))

-- a turn of `store`
pub put_turn : (s : List ℕ) (at w i x : ℕ) → i < w → put (w - i) s (at + i) x ≡ put (w - (i + 1)) (set s (at + i) (x % 256)) (at + (i + 1)) (x / 256)
put_turn s at w i x p =
    let a : w - i ≡ suc (w - (i + 1)) = omega arith in
    let b : at + i + 1 ≡ at + (i + 1) = omega arith in
    rw (a, put_suc, b)

pub put_done : (s : List ℕ) (at w x : ℕ) → put (w - w) s (at + w) x ≡ s
unfolding put
put_done s at w x = let a : w - w ≡ 0 = omega arith in rw a

-- the ends of the two loops
pub load_done : (s : List ℕ) (at w i n : ℕ) → i ≤ 0 → n ≡ num (w - i) s (at + i) → n < 256 ^ (w - i) → (n ≡ num w s at) × (n < 256 ^ w)
load_done s at w i n p e h =
    let a : w - i ≡ w = omega arith in
    let b : at + i ≡ at = omega arith in
    (rw (a, b) at e, rw a at h)

pub store_done : (s : List ℕ) (at w i x : ℕ) (t : List ℕ) → i ≤ w → w ≤ i → put (w - i) s (at + i) x ≡ t → s ≡ t
store_done s at w i x t p q e =
    let a : i ≡ w = omega arith in
    sym (put_done s at w x) ∙ (rw a at e)
