-- Laws of parts, of zero bytes and of a record's fields.
use Prim.Native.Nat.{ℕ, zero, suc, ◌+◌, ◌-◌, ◌≤◌, ◌<◌}
use native.Mathlib.Omega.{arith}
use native.Mathlib.Nat.{min-eq_left, min-eq_right}
use mathlib.Core.Path.{◌≡◌, refl, sym, ap, ◌∙◌}
use mathlib.Core.Bool.{Bool, true, false, cond}
use mathlib.Core.List.{List}
use lib.ListN.{length, get_or, drop, set, replicate}
use lib.Seq.{get_or-take, get_or-drop, get_or-set_same}
use borrow.Author.Tests.{eq-eqb, ne_eqb}
use Rattle.word.specs.Word.{num}
use Rattle.word.proofs.Tests.{among_four}
use Rattle.word.proofs.Puts.{get_d_put_below}
use Rattle.record.specs.Part.{part}
use Rattle.record.specs.Record.{owner_of, numbered, lesser, is_length}

-- a byte of a part is a byte of the whole
pub get_d_part : (c a w : ℕ) (t : List ℕ) → c < w → get_or (part a w t) c 0 ≡ get_or t (a + c) 0
get_d_part c a w t h = get_or-take w (drop a t) c 0 h ∙ get_or-drop a t c 0

-- and so is a number
pub num_part : (k c a w : ℕ) (t : List ℕ) → c + k ≤ w → num k (part a w t) c ≡ num k t (a + c)
unfolding num
num_part zero c a w t h = refl
num_part (suc k) c a w t h =
    let h₁ : c < w = omega arith in
    let h₂ : c + 1 + k ≤ w = omega arith in
    let e : a + (c + 1) ≡ a + c + 1 = omega arith in
    let ih : num k (part a w t) (c + 1) ≡ num k t (a + c + 1) = num_part k (c + 1) a w t h₂ ∙ ap (λ (x : ℕ). num k t x) e in
    rw (get_d_part c a w t h₁, ih)

-- the field at the row's start
pub num_front : (k a w : ℕ) (t : List ℕ) → k ≤ w → num k (part a w t) 0 ≡ num k t a
num_front k a w t h =
    let h₁ : 0 + k ≤ w = omega arith in
    let e : a + 0 ≡ a = omega arith in
    num_part k 0 a w t h₁ ∙ ap (λ (x : ℕ). num k t x) e

-- one of two lists, which are as long
pub either_length : (b : Bool) (n : ℕ) (x y : List ℕ) → length x ≡ n → length y ≡ n → length (cond b x y) ≡ n
either_length true n x y h k = h
either_length false n x y h k = k

-- zero bytes behind the first ones
pub drop_zeros : (n k : ℕ) → drop {A = ℕ} k (replicate n 0) ≡ replicate (n - k) 0
drop_zeros n zero = let e : n - 0 ≡ n = omega arith in rw e
drop_zeros zero (suc k) = let e : 0 - suc k ≡ 0 = omega arith in rw e
drop_zeros (suc n) (suc k) = let e : suc n - suc k ≡ n - k = omega arith in rw e (drop_zeros n k)

-- the smaller of two numbers, where 0 is none: none so far, the old one, the new one
pub lesser_none : (a b : ℕ) → a ≡ 0 → b ≡ lesser a b
unfolding lesser
lesser_none a b h = rw (eq-eqb a 0 h)

pub lesser_old : (a b : ℕ) → (a ≡ 0 → ⊥) → a ≤ b → a ≡ lesser a b
unfolding lesser
lesser_old a b h k = rw (ne_eqb a 0 h) (sym (min-eq_left k))

pub lesser_new : (a b : ℕ) → (a ≡ 0 → ⊥) → b < a → b ≡ lesser a b
unfolding lesser
lesser_new a b h k = let k' : b ≤ a = omega arith in rw (ne_eqb a 0 h) (sym (min-eq_right k'))

-- an online row that is committed under a number: "clears the owner"
pub numbered_owner : (r : List ℕ) (k : ℕ) → length r ≡ 19 → owner_of (numbered r k) ≡ 0
unfolding numbered
numbered_owner r k h = get_d_put_below 4 (set r 14 0) 15 k 14 (omega arith) ∙ get_or-set_same r 14 0 0 (omega arith)

-- "length (1, 2, 4 or 8)"
pub at_length : (P : ℕ → Type 0) (w : ℕ) → is_length w ≡ true → P 1 → P 2 → P 4 → P 8 → P w
unfolding is_length
at_length P w h = among_four P w 1 2 4 8 h

pub length_most : (w : ℕ) → is_length w ≡ true → w ≤ 8
length_most w h = at_length (λ (x : ℕ). x ≤ 8) w h (omega arith) (omega arith) (omega arith) (omega arith)
