-- The history: what the calls and their answers tell, and nothing else. No table is looked at, and nothing is ever compacted or dropped. docs/RULES.md 10.
use Rattle.std.specs.Prelude.{ℕ, ◌+◌, Bool, true, false, not, ◌&&◌, ◌||◌, List, [], ◌∷◌, ◌++◌, length, eqb, leb}
use Rattle.record.specs.Rows.{keep}
use Rattle.record.specs.Record.{number_of, committed, applied, on_page, committed_on, owned_by, number_rows}
use Rattle.rules.specs.declared.Params.{Params}
use Rattle.rules.specs.Lent.{page_in}

pub record Past : Type 0 where
  -- as format was given them; `start` is the stored pages that it found
  pub size : ℕ
  pub pages : ℕ
  pub start : List ℕ
  -- the last number given to a committed update
  pub last : ℕ
  -- every update that was accepted and not taken back, in the order made: with its owner, or committed with its number
  pub made : List (List ℕ)
  pub live : ℕ → Bool
  -- power was lost, and no restart has followed
  pub down : Bool

-- format: "starts the history anew"
unfoldable pub fresh : Params → ℕ → List ℕ → Past
fresh g last start = record { size = g.size; pages = g.pages; start = start; last = last; made = []; live = λ (x : ℕ). false; down = false }

unfoldable pub begins : Past → ℕ → Past
begins h x = record { size = h.size; pages = h.pages; start = h.start; last = h.last; made = h.made; live = λ (y : ℕ). eqb y x || h.live y; down = h.down }

unfoldable pub updates : Past → List ℕ → Past
updates h r = record { size = h.size; pages = h.pages; start = h.start; last = h.last; made = h.made ++ (r ∷ []); live = h.live; down = h.down }

-- the owner's updates are numbered on from the last number, and are nobody's from here on
unfoldable pub commits : Past → ℕ → Past
commits h x = record { size = h.size; pages = h.pages; start = h.start; last = h.last + length (keep (owned_by x) h.made); made = number_rows x (h.last + 1) h.made; live = λ (y : ℕ). not (eqb y x) && h.live y; down = h.down }

unfoldable pub aborts : Past → ℕ → Past
aborts h x = record { size = h.size; pages = h.pages; start = h.start; last = h.last; made = keep (λ (r : List ℕ). not (owned_by x r)) h.made; live = λ (y : ℕ). not (eqb y x) && h.live y; down = h.down }

-- a power loss: only what is committed remains, and nobody is live; then a restart, which counts as a loss by itself
unfoldable pub falls : Past → Past
falls h = record { size = h.size; pages = h.pages; start = h.start; last = h.last; made = keep committed h.made; live = λ (y : ℕ). false; down = true }

unfoldable pub rises : Past → Past
rises h = record { size = h.size; pages = h.pages; start = h.start; last = h.last; made = keep committed h.made; live = λ (y : ℕ). false; down = false }

abbrev pub start_page : Past → ℕ → List ℕ
start_page h p = page_in h.size p h.start

-- "the starting page with all committed updates, and the reader's own, applied in the order made"
unfoldable pub shown : Past → ℕ → ℕ → List ℕ
shown h x p = applied (keep (λ (r : List ℕ). on_page p r && (committed r || owned_by x r)) h.made) (start_page h p)

-- "the starting page with just those committed updates numbered up to its stamp"
unfoldable pub stored_up_to : Past → ℕ → ℕ → List ℕ
stored_up_to h stamp p = applied (keep (λ (r : List ℕ). committed_on p r && leb (number_of r) stamp) h.made) (start_page h p)
