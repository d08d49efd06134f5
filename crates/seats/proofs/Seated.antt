-- Entries and order agree: S4, S5 and S6 of "Sound tables", for each frame.
use Prim.Native.Nat.{ℕ, ◌/◌, ◌≤◌, ◌<◌}
use mathlib.Core.Path.{◌≡◌}
use mathlib.Core.Bool.{true}
use mathlib.Core.List.{List}
use lib.Dec.{leb, ltb}
use Rattle.rules.specs.Sound.{every, serving, times}

pub record Seated (frames : ℕ) (entries order : List ℕ) : Type 0 where
  pub entries_within : every (λ (e : ℕ). leb (e / 2) frames) entries ≡ true
  pub order_within : every (λ (f : ℕ). ltb f frames) order ≡ true
  pub once : (f : ℕ) → f < frames → serving f entries ≤ 1
  pub named : (f : ℕ) → f < frames → times f order ≡ serving f entries
