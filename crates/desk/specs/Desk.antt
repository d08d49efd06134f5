-- What was committed of a page; where a page's image stands in a log.
use Rattle.std.specs.Prelude.{ℕ, ◌+◌, ◌*◌, ◌≡◌, true, cond, List, [], ◌∷◌, length, eqb}
use Rattle.record.specs.Part.{part}
use Rattle.record.specs.Rows.{keep, any}
use Rattle.record.specs.Record.{committed_on, applied}
use Rattle.waljudge.specs.Judge.{judged, found_in}
use Rattle.history.specs.Past.{Past, start_page}

-- the starting page with all committed updates applied in the order made
unfoldable pub committed_page : Past → ℕ → List ℕ
committed_page h p = applied (keep (committed_on p) h.made) (start_page h p)

-- where the image of page p's last listing begins, in a log whose frames have w bytes and begin at a place; other where p is not listed
unfoldable pub last_listed : ℕ → ℕ → ℕ → ℕ → List ℕ → ℕ
last_listed w p at other [] = other
last_listed w p at other (q ∷ qs) = last_listed w p (at + w) (cond (eqb q p) (at + 24) other) qs

-- a reader of a log finds in it all that was listed: every frame is valid, the last commit frame ends the log, and each page listed (from 0 there, from 1 in
-- the log) is found at its last listing, where its image stands
pub record Reads (size : ℕ) (image : ℕ → List ℕ) (list log : List ℕ) : Type 0 where
  pub whole : length log ≡ 32 + length list * (24 + size)
  pub valid : judged log ≡ record { code = 0; frames = length list; end = length log }
  pub found : (p : ℕ) → any (λ (q : ℕ). eqb q p) list ≡ true → found_in log (p + 1) ≡ record { code = 0; found = 1; at = last_listed (24 + size) p 32 0 list }
  pub shows : (p : ℕ) → any (λ (q : ℕ). eqb q p) list ≡ true → part (last_listed (24 + size) p 32 0 list) size log ≡ image p
