-- Tables by length, 0 to 8, of what bounds a record's fields: 0 where the number is no length.
use Rattle.std.specs.Prelude.{ℕ, ◌-◌, List, [], ◌∷◌}

-- how many offsets a change of that length has on a page
unfoldable pub places_of : ℕ → List ℕ
places_of size = 0 ∷ size ∷ (size - 1) ∷ 0 ∷ (size - 3) ∷ 0 ∷ 0 ∷ 0 ∷ (size - 7) ∷ []

-- the greatest value
unfoldable pub most_values : List ℕ
most_values = 0 ∷ 255 ∷ 65535 ∷ 0 ∷ 4294967295 ∷ 0 ∷ 0 ∷ 0 ∷ 18446744073709551615 ∷ []
