-- Marks of the pages that may have a committed online record: a page without a mark has none, so that compact is not due for it.
use Rattle.std.specs.Prelude.{ℕ, ◌<◌, ◌≡◌, List, length, get_or}
use Rattle.rules.specs.Lent.{Lent}
use Rattle.rules.specs.Steps.{foldable}

pub record Noted (a : List ℕ) (s : Lent) : Type 0 where
  pub long : length a ≡ 1024
  pub none : (p : ℕ) → p < 1024 → (get_or a p 0 ≡ 1 → ⊥) → length (foldable s p) ≡ 0
