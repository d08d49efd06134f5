-- A table is a list of bytes: rows of w bytes, of which the first n count. What is not a row is zero.
use Rattle.std.specs.Prelude.{ℕ, zero, suc, ◌+◌, ◌*◌, ◌-◌, Bool, true, false, ◌||◌, List, [], ◌∷◌, ◌++◌, length, replicate}
use Rattle.record.specs.Part.{part}

-- row i of a table of w bytes a row
abbrev pub row_at : ℕ → List ℕ → ℕ → List ℕ
row_at w t i = part (i * w) w t

-- the n rows from row i on
unfoldable pub rows : ℕ → ℕ → List ℕ → ℕ → List (List ℕ)
rows w zero t i = []
rows w (suc n) t i = row_at w t i ∷ rows w n t (i + 1)

-- rows as bytes
unfoldable pub joined : List (List ℕ) → List ℕ
joined [] = []
joined (r ∷ rs) = r ++ joined rs

-- a table of so many rows of w bytes: these rows, then zeros
unfoldable pub table : ℕ → ℕ → List (List ℕ) → List ℕ
table w size rs = joined rs ++ replicate ((size - length rs) * w) 0

module _ {A : Type 0} where
  -- a row in front if the test holds
  abbrev pub cons_if : Bool → A → List A → List A
  cons_if true x l = x ∷ l
  cons_if false x l = l

  -- those that pass the test, in their order
  unfoldable pub keep : (A → Bool) → List A → List A
  keep b [] = []
  keep b (x ∷ l) = cons_if (b x) x (keep b l)

  -- one at least passes the test
  unfoldable pub any : (A → Bool) → List A → Bool
  any b [] = false
  any b (x ∷ l) = b x || any b l
