-- What a survey of a page's rows says.
use Rattle.std.specs.Prelude.{ℕ, ◌+◌, ◌≤◌, min, ◌≡◌, cond, List, [], ◌∷◌, length}
use Rattle.record.specs.Rows.{keep}
use Rattle.record.specs.Record.{on_page, committed_on, smallest, greatest}
use Rattle.table.specs.Before.{NoneBefore, NoneFrom}
use Rattle.table.specs.declared.page.Survey.{Survey}

-- r is the survey of the rows
pub record Surveyed (p : ℕ) (rs : List (List ℕ)) (r : Survey) : Type 0 where
  pub all : r.all ≡ length (keep (on_page p) rs)
  pub committed : r.committed ≡ length (keep (committed_on p) rs)
  pub least : r.least ≡ smallest 0 (keep (committed_on p) rs)
  pub most : r.most ≡ greatest 0 (keep (committed_on p) rs)
  pub fewer : r.committed ≤ r.all
  pub below : r.all ≤ length rs
  pub from : NoneBefore (committed_on p) rs r.from
  pub to : NoneFrom (committed_on p) rs r.to (length rs)
  pub ordered : r.from ≤ r.to
  pub within : r.to ≤ length rs

-- r is s with the row x, at the place i, besides
pub record Seen (s : Survey) (p i : ℕ) (x : List ℕ) (r : Survey) : Type 0 where
  pub all : r.all ≡ s.all + length (keep (on_page p) (x ∷ []))
  pub committed : r.committed ≡ s.committed + length (keep (committed_on p) (x ∷ []))
  pub least : r.least ≡ smallest s.least (keep (committed_on p) (x ∷ []))
  pub most : r.most ≡ greatest s.most (keep (committed_on p) (x ∷ []))
  pub from : r.from ≡ cond (committed_on p x) (min s.from i) s.from
  pub to : r.to ≡ cond (committed_on p x) (i + 1) s.to
