-- Rows that a walk may leave out.
use Rattle.std.specs.Prelude.{ℕ, suc, ◌≡◌, Bool, false, List, [], get_or}

-- no row from row a on, up to row m, passes the test
pub data NoneFrom (b : List ℕ → Bool) (rs : List (List ℕ)) (a : ℕ) : ℕ → Type 0 where
  start : NoneFrom b rs a a
  pass : {m : ℕ} → NoneFrom b rs a m → b (get_or rs m []) ≡ false → NoneFrom b rs a (suc m)

-- no row before row a does
abbrev pub NoneBefore : (List ℕ → Bool) → List (List ℕ) → ℕ → Type 0
NoneBefore b rs a = NoneFrom b rs 0 a
