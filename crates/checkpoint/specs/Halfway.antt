-- The state after the first j compactions of a checkpoint, and what is known of it.
use Rattle.std.specs.Prelude.{ℕ, ◌≤◌, ◌≡◌}
use Rattle.rules.specs.Lent.{Lent, pages_of, last_of, logged_of}
use Rattle.rules.specs.Shape.{Shaped}
use Rattle.rules.specs.Steps.{after_pages}

-- s is what the first j compactions leave of o, and these are their counts
pub record Halfway (min_del max_age : ℕ) (o s : Lent) (reads writes j : ℕ) : Type 0 where
  pub within : j ≤ pages_of o
  pub state : s ≡ (after_pages min_del max_age j o).lent
  pub read : reads ≡ (after_pages min_del max_age j o).reads
  pub written : writes ≡ (after_pages min_del max_age j o).writes
  pub reads_most : reads ≤ j
  pub writes_most : writes ≤ j
  pub shaped : Shaped s
  pub fixed : s.durable.fixed ≡ o.durable.fixed
  pub logged : logged_of s ≤ last_of s
