-- The tests of a number.
use Rattle.std.proofs.Common.{◌≡◌, ℕ, ◌≤◌, ◌<◌, Bool, true, false, ◌&&◌, leb, refl, ap, ◌∙◌}
use mathlib.Core.Path.{ap₂}
use borrow.Author.Tests.{le-leb, lt-leb}
use Rattle.clerk.specs.Rule.{is_number}

and_none : (b : Bool) → (b && false) ≡ false
and_none true = refl
and_none false = refl

-- numbers in and out of range
pub too_low : (x : ℕ) → x < 1 → is_number x ≡ false
too_low x h = ap (λ (b : Bool). b && leb x 32) (lt-leb 1 x h)

pub too_high : (x : ℕ) → 32 < x → is_number x ≡ false
too_high x h = ap (λ (b : Bool). leb 1 x && b) (lt-leb x 32 h) ∙ and_none (leb 1 x)

pub number_in_range : (x : ℕ) → 1 ≤ x → x ≤ 32 → is_number x ≡ true
number_in_range x p q = ap₂ (λ (a b : Bool). a && b) (le-leb 1 x p) (le-leb x 32 q)
