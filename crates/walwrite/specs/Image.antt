-- A page's image: the stored page with its committed online records applied in table order.
use Rattle.std.specs.Prelude.{ℕ, List}
use Rattle.record.specs.Rows.{keep}
use Rattle.record.specs.Record.{committed_on, applied}
use Rattle.rules.specs.Lent.{Lent, size_of, online_of, page_in}

-- of page p, by the page size, the stored pages and the online rows
unfoldable pub image_in : ℕ → List ℕ → List (List ℕ) → ℕ → List ℕ
image_in size stored online p = applied (keep (committed_on p) online) (page_in size p stored)

abbrev pub image_of : Lent → ℕ → List ℕ
image_of s p = image_in (size_of s) s.durable.stored (online_of s) p
