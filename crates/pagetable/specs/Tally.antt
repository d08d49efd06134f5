-- How many bytes of a list have a key, for each key: a byte's key is its share, of a page entry the half, of a place of the order the byte itself.
use Rattle.std.specs.Prelude.{ℕ, ◌/◌, ◌≤◌, ◌<◌, ◌≡◌, List, length, get_or, eqb}
use Rattle.record.specs.Rows.{keep}

unfoldable pub count : ℕ → ℕ → List ℕ → ℕ
count share k l = length (keep (λ (b : ℕ). eqb (b / share) k) l)

-- a has the count of each key from the least on
pub record Tallied (share least : ℕ) (l a : List ℕ) : Type 0 where
  pub slot : (k : ℕ) → least ≤ k → k < 256 → get_or a k 0 ≡ count share k l
