-- The marks by which S9 and S12 are checked in one pass over the rows: one for each number, one for each page.
use Rattle.std.specs.Prelude.{ℕ, ◌-◌, Bool, true, false, cond, not, ◌&&◌, ◌||◌, List, [], ◌∷◌, get_or, set, eqb, leb, ltb}
use Rattle.record.specs.Record.{number_of, on_page}
use Rattle.record.specs.Rows.{any}
use Rattle.rules.specs.Lent.{is_dirty}
use Rattle.rules.specs.Sound.{agree}

-- page p is marked, or a row is of it
abbrev pub marked_or_on : List Bool → List (List ℕ) → ℕ → Bool
marked_or_on a rs p = get_or a p false || any (on_page p) rs

-- the entry of page p is dirty exactly if the page is marked
unfoldable pub entry_marked : List ℕ → List Bool → ℕ → Bool
entry_marked entries a p = agree (is_dirty (get_or entries p 0)) (get_or a p false)

-- a number's mark stands at its distance from the first number; number 0 has none
abbrev pub slotted : ℕ → List ℕ → Bool
slotted first r = eqb (number_of r) 0 || (leb first (number_of r) && ltb (number_of r - first) 2048)

-- a row's number is not marked; the marks with its number
unfoldable pub unmarked : ℕ → List Bool → List ℕ → Bool
unmarked first a r = eqb (number_of r) 0 || not (get_or a (number_of r - first) false)

unfoldable pub with_number : ℕ → List Bool → List ℕ → List Bool
with_number first a r = cond (eqb (number_of r) 0) a (set a (number_of r - first) true)

-- each row's number is unmarked when its turn comes
unfoldable pub all_unmarked : ℕ → List (List ℕ) → List Bool → Bool
all_unmarked first [] a = true
all_unmarked first (r ∷ rs) a = unmarked first a r && all_unmarked first rs (with_number first a r)
