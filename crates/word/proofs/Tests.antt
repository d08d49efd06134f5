-- Laws of tests joined in a row, and of a call that answers a test.
use Prim.Native.Nat.{ℕ}
use native.Mathlib.Omega.{arith}
use mathlib.Core.Path.{◌≡◌, refl, sym, subst, ◌∙◌}
use mathlib.Core.Bool.{Bool, true, false, not, ◌&&◌, ◌||◌, and-false}
use lib.Dec.{eqb}
use borrow.Author.Tests.{eqb-true, not-true, not-false}

-- two tests, both of which hold
pub and_both : (a b : Bool) → (a && b) ≡ true → (a ≡ true) × (b ≡ true)
and_both true b h = (refl, h)
and_both false b h = let z : ◌≡◌ {A = ℕ} 0 1 = cc in absurd (omega arith)

pub and_in : (a b : Bool) → a ≡ true → b ≡ true → (a && b) ≡ true
and_in a b h k = rw (h, k)

-- two tests and two more, the inner ones the other way round
pub and_swap : (x y u v : Bool) → (x && y && (u && v)) ≡ (x && u && (y && v))
and_swap true true u v = refl
and_swap true false u v = sym (and-false u)
and_swap false y u v = refl

-- tests in a row
pub and_three : (a b c : Bool) → (a && b && c) ≡ true → (a ≡ true) × (b ≡ true) × (c ≡ true)
and_three a b c h =
    let x = and_both (a && b) c h in
    let y = and_both a b x.0 in
    (y.0, y.1, x.1)

pub and_five : (a b c d e : Bool) → (a && b && c && d && e) ≡ true → (a ≡ true) × (b ≡ true) × (c ≡ true) × (d ≡ true) × (e ≡ true)
and_five a b c d e h =
    let x = and_three (a && b && c) d e h in
    let y = and_three a b c x.0 in
    (y.0, y.1, y.2, x.1, x.2)

pub and_six : (a b c d e f : Bool) → (a && b && c && d && e && f) ≡ true → (a ≡ true) × (b ≡ true) × (c ≡ true) × (d ≡ true) × (e ≡ true) × (f ≡ true)
and_six a b c d e f h =
    let x = and_both (a && b && c && d && e) f h in
    let y = and_five a b c d e x.0 in
    (y.0, y.1, y.2, y.3, y.4, x.1)

pub and_nine : (a b c d e f g h i : Bool) → (a && b && c && d && e && f && g && h && i) ≡ true → (a ≡ true) × (b ≡ true) × (c ≡ true) × (d ≡ true) × (e ≡ true) × (f ≡ true) × (g ≡ true) × (h ≡ true) × (i ≡ true)
and_nine a b c d e f g h i k =
    let x = and_five (a && b && c && d && e) f g h i k in
    let y = and_five a b c d e x.0 in
    (y.0, y.1, y.2, y.3, y.4, x.1, x.2, x.3, x.4)

-- what holds of four numbers holds of one that is among them
pub among_four : (P : ℕ → Type 0) (n a b c d : ℕ) → (eqb n a || eqb n b || eqb n c || eqb n d) ≡ true → P a → P b → P c → P d → P n
among_four P n a b c d h one two three four = pick (eqb n a) (eqb n b) (eqb n c) (eqb n d) refl refl refl refl h
  where
    pick : (w x y z : Bool) → eqb n a ≡ w → eqb n b ≡ x → eqb n c ≡ y → eqb n d ≡ z → (w || x || y || z) ≡ true → P n
    pick true x y z e f g k t = subst P (sym (eqb-true n a e)) one
    pick false true y z e f g k t = subst P (sym (eqb-true n b f)) two
    pick false false true z e f g k t = subst P (sym (eqb-true n c g)) three
    pick false false false true e f g k t = subst P (sym (eqb-true n d k)) four
    pick false false false false e f g k t = let u : ◌≡◌ {A = ℕ} 0 1 = cc in absurd (omega arith)

-- a test's value from the call that asked it
pub so : (a b : Bool) → a ≡ b → not a ≡ false → b ≡ true
so a b e h = sym e ∙ not-false a h

pub not_so : (a b : Bool) → a ≡ b → not a ≡ true → b ≡ false
not_so a b e h = sym e ∙ not-true a h
