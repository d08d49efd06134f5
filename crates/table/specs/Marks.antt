-- A walk over rows that marks their pages.
use Rattle.std.specs.Prelude.{ℕ, List, [], ◌∷◌, set}
use Rattle.record.specs.Record.{page_of}

-- marks with one at each row's page
unfoldable pub mark_pages : List (List ℕ) → List ℕ → List ℕ
mark_pages [] a = a
mark_pages (r ∷ rs) a = mark_pages rs (set a (page_of r) 1)
