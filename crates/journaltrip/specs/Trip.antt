-- Pages brought back: those listed are as they were, the others as they are.
use Rattle.std.specs.Prelude.{ℕ, ◌*◌, ◌≡◌, Bool, false, cond, ◌||◌, List, [], ◌∷◌, length, eqb}
use Rattle.record.specs.Part.{part}

-- page p is in the list
unfoldable pub is_listed : ℕ → List ℕ → Bool
is_listed p [] = false
is_listed p (q ∷ qs) = eqb p q || is_listed p qs

-- of the pages that were written, those before playing and those after it
pub record BroughtBack (size : ℕ) (list written before after : List ℕ) : Type 0 where
  pub long : length after ≡ length before
  pub each : (p : ℕ) → part (p * size) size after ≡ cond (is_listed p list) (part (p * size) size written) (part (p * size) size before)
