-- S13 in one pass over the uncommitted rows: they are chained by page, and each page's rows mark their bytes.
-- A mark tells the page and the owner that came last: 64 times the page, plus the owner. So a page's base, 64 times
-- the page, is above the marks of all pages before it, and no mark is ever cleared.
use Rattle.std.specs.Prelude.{ℕ, zero, suc, ◌+◌, ◌*◌, ◌≤◌, ◌<◌, ◌≡◌, Bool, true, cond, not, ◌&&◌, List, [], ◌∷◌, length, get_or, drop, set, eqb, leb, ltb}
use Rattle.record.specs.Rows.{keep}
use Rattle.record.specs.Record.{page_of, offset_of, length_of, owner_of, committed}
use Rattle.rules.specs.Sound.{pairs, up_to, apart}

-- an uncommitted row of page p
abbrev pub open_on : ℕ → List ℕ → Bool
open_on p r = eqb (page_of r) p && not (committed r)

-- what S7 and S8 say of a row's bytes and its owner, as far as marks lean on it
abbrev pub bounded : List ℕ → Bool
bounded r = leb 1 (length_of r) && leb (offset_of r + length_of r) 4096 && leb (owner_of r) 32

-- the rows from index j on, each followed by the one that `after` names; indices rise from `low`, and one that is no row's ends the chain
pub data Chain (rs : List (List ℕ)) (after : List ℕ) : ℕ → ℕ → List (List ℕ) → Type 0 where
  ends : {low j : ℕ} → length rs ≤ j → Chain rs after low j []
  goes : {low j : ℕ} {l : List (List ℕ)} → low ≤ j → j < length rs → Chain rs after (j + 1) (get_or after j 0) l → Chain rs after low j (get_or rs j [] ∷ l)

-- each page's chain has its uncommitted rows from row i on
pub record Linked (rs : List (List ℕ)) (i : ℕ) (heads after : List ℕ) : Type 0 where
  pub wide : length heads ≡ 1024
  pub long : length after ≡ 512
  pub chains : (p : ℕ) → p < 1024 → Chain rs after i (get_or heads p 0) (keep (open_on p) (drop i rs))

-- row i in front of its page's chain; a committed row is in none
unfoldable pub heads_with : List ℕ → ℕ → List ℕ → List ℕ
heads_with heads i r = cond (committed r) heads (set heads (page_of r) i)

unfoldable pub after_with : List ℕ → List ℕ → ℕ → List ℕ → List ℕ
after_with heads after i r = cond (committed r) after (set after i (get_or heads (page_of r) 0))

-- byte k has no mark of this page by another owner: one above the base that is not the owner's own
unfoldable pub free_byte : ℕ → ℕ → List ℕ → ℕ → Bool
free_byte base mine a k = not (ltb base (get_or a k 0) && not (eqb (get_or a k 0) mine))

-- n bytes from k on marked
unfoldable pub mark_bytes : ℕ → ℕ → ℕ → List ℕ → List ℕ
mark_bytes mine zero k a = a
mark_bytes mine (suc n) k a = mark_bytes mine n (k + 1) (set a k mine)

-- a row's bytes are free of others' marks; the marks with the row's
unfoldable pub free_row : ℕ → List ℕ → List ℕ → Bool
free_row base a r = up_to (free_byte base (base + owner_of r) a) (length_of r) (offset_of r)

unfoldable pub with_row : ℕ → List ℕ → List ℕ → List ℕ
with_row base a r = mark_bytes (base + owner_of r) (length_of r) (offset_of r) a

-- each row of a page is free when its turn comes; the marks after them
unfoldable pub free_rows : ℕ → List ℕ → List (List ℕ) → Bool
free_rows base a [] = true
free_rows base a (r ∷ l) = free_row base a r && free_rows base (with_row base a r) l

unfoldable pub with_rows : ℕ → List ℕ → List (List ℕ) → List ℕ
with_rows base a [] = a
with_rows base a (r ∷ l) = with_rows base (with_row base a r) l

-- the walk over the rows, at row i: what earlier ones marked is at most 64 i, and each page that begins before has its rows apart
pub record Passed (rs : List (List ℕ)) (i : ℕ) (heads marks : List ℕ) : Type 0 where
  pub wide : length marks ≡ 4096
  pub most : (b : ℕ) → get_or marks b 0 ≤ i * 64
  pub clear : (p : ℕ) → p < 1024 → get_or heads p 0 < i → pairs apart (keep (open_on p) rs) ≡ true
