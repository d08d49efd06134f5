-- What is read back after a number was put: the number itself, and bytes, numbers and parts elsewhere.
use Prim.Native.Nat.{ℕ, zero, suc, ◌+◌, ◌*◌, ◌/◌, ◌%◌, ◌^◌, ◌≤◌, ◌<◌}
use native.Mathlib.Omega.{arith}
use native.Mathlib.Nat.{pow-suc}
use mathlib.Core.Path.{◌≡◌, refl, ap, ◌∙◌}
use mathlib.Core.List.{List}
use lib.ListN.{length, get_or, take, drop, set, length-set}
use lib.Seq.{get_or-set_same, get_or-set_other, take-set-le, drop-set-lt}
use Rattle.word.specs.Word.{num, put}

-- a byte and a number elsewhere than where a number was put
pub get_d_put_below : (w : ℕ) (l : List ℕ) (at v i : ℕ) → i < at → get_or (put w l at v) i 0 ≡ get_or l i 0
unfolding put
get_d_put_below zero l at v i h = refl
get_d_put_below (suc w) l at v i h =
    get_d_put_below w (set l at (v % 256)) (at + 1) (v / 256) i (omega arith) ∙ get_or-set_other l at i (v % 256) 0 (λ e. omega arith)

pub get_d_put_above : (w : ℕ) (l : List ℕ) (at v i : ℕ) → at + w ≤ i → get_or (put w l at v) i 0 ≡ get_or l i 0
unfolding put
get_d_put_above zero l at v i h = refl
get_d_put_above (suc w) l at v i h =
    get_d_put_above w (set l at (v % 256)) (at + 1) (v / 256) i (omega arith) ∙ get_or-set_other l at i (v % 256) 0 (λ e. omega arith)

pub num_put_below : (k w : ℕ) (l : List ℕ) (at v i : ℕ) → i + k ≤ at → num k (put w l at v) i ≡ num k l i
unfolding num
num_put_below zero w l at v i h = refl
num_put_below (suc k) w l at v i h =
    let h₁ : i < at = omega arith in
    let h₂ : i + 1 + k ≤ at = omega arith in
    rw (get_d_put_below w l at v i h₁, num_put_below k w l at v (i + 1) h₂)

pub num_put_above : (k w : ℕ) (l : List ℕ) (at v i : ℕ) → at + w ≤ i → num k (put w l at v) i ≡ num k l i
unfolding num
num_put_above zero w l at v i h = refl
num_put_above (suc k) w l at v i h =
    let h₂ : at + w ≤ i + 1 = omega arith in
    rw (get_d_put_above w l at v i h, num_put_above k w l at v (i + 1) h₂)

-- the number itself
pub num_put : (w : ℕ) (l : List ℕ) (at v : ℕ) → at + w ≤ length l → v < 256 ^ w → num w (put w l at v) at ≡ v
unfolding num put
num_put zero l at v h k = omega arith
num_put (suc w) l at v h k =
    let l' : List ℕ = set l at (v % 256) in
    let n : length l' ≡ length l = length-set l at (v % 256) in
    let h₁ : at < length l = omega arith in
    let h₂ : at + 1 + w ≤ length l' = omega arith in
    let h₃ : at < at + 1 = omega arith in
    let k' : v < 256 ^ w * 256 = rw pow-suc at k in
    let k₁ : v / 256 < 256 ^ w = omega arith in
    let e : get_or (put w l' (at + 1) (v / 256)) at 0 ≡ v % 256 = get_d_put_below w l' (at + 1) (v / 256) at h₃ ∙ get_or-set_same l at (v % 256) 0 h₁ in
    let f : num w (put w l' (at + 1) (v / 256)) (at + 1) ≡ v / 256 = num_put w l' (at + 1) (v / 256) h₂ k₁ in
    ap (λ (x : ℕ). x + 256 * num w (put w l' (at + 1) (v / 256)) (at + 1)) e ∙ ap (λ (x : ℕ). v % 256 + 256 * x) f ∙ omega arith

-- what is behind it, what is before it
pub drop_put : (w : ℕ) (l : List ℕ) (at v n : ℕ) → at + w ≤ n → drop n (put w l at v) ≡ drop n l
unfolding put
drop_put zero l at v n h = refl
drop_put (suc w) l at v n h = drop_put w (set l at (v % 256)) (at + 1) (v / 256) n (omega arith) ∙ drop-set-lt n l at (v % 256) (omega arith)

pub take_put : (w : ℕ) (l : List ℕ) (at v n : ℕ) → n ≤ at → take n (put w l at v) ≡ take n l
unfolding put
take_put zero l at v n h = refl
take_put (suc w) l at v n h = take_put w (set l at (v % 256)) (at + 1) (v / 256) n (omega arith) ∙ take-set-le n l at (v % 256) h
