-- What holds between the history and the bytes after every call and loss: more than soundness (`Soundly` reads that off), and kept by every step.
-- `done` is the bodies of the committed updates in the order of their numbers: all that was ever in the log.
use Prim.Native.Nat.{ℕ, ◌+◌, ◌*◌, ◌-◌, ◌≤◌, ◌<◌}
use mathlib.Core.Path.{◌≡◌}
use mathlib.Core.Logic.{◌⊎◌}
use mathlib.Core.Bool.{Bool, true, not, ◌&&◌, ◌||◌}
use mathlib.Core.List.{List, [], ◌++◌}
use lib.ListN.{length, get_or, drop}
use lib.Dec.{eqb, leb, ltb}
use Rattle.word.specs.Word.{num}
use Rattle.record.specs.Rows.{keep, any}
use Rattle.record.specs.Record.{page_of, owner_of, number_of, committed, applied, on_page, well_formed}
use Rattle.record.proofs.Rows.{Wide}
use Rattle.rules.specs.Lent.{Lent, params_of, Durable, size_of, pages_of, frames_of, online_size_of, log_size_of, last_of, closed_of, logged_of, first_number_of, stamp_at, stamp_of, dirty_of, log_of, order_of, entries_of, online_of, in_frame, frame_of, is_dirty, page_in}
use Rattle.rules.specs.Sound.{every, pairs, zeros, between, in_range, apart}
use Rattle.redo.proofs.Loose.{◌≅◌, numbered_from}
use Rattle.seats.proofs.Seated.{Seated}
use Rattle.readback.proofs.Seen.{only, Areas, Whole, lives_of}
use Rattle.history.specs.Past.{Past}

-- what format fixed: page size, pages, starting pages, and the number before the first commit's
pub record Ground : Type 0 where
  pub size : ℕ
  pub pages : ℕ
  pub start : List ℕ
  pub base : ℕ

-- the committed updates as numbered rows, in the order of their numbers
abbrev pub rows_of : Ground → List (List ℕ) → List (List ℕ)
rows_of g done = numbered_from (g.base + 1) done

-- the uncommitted updates, in the order made
abbrev pub uncommitted : List ℕ → Bool
uncommitted r = not (committed r)

abbrev pub open_of : Past → List (List ℕ)
open_of h = keep uncommitted h.made

-- numbered above its page's stamp, so not in the stored page
abbrev pub above_stamp : List ℕ → List ℕ → Bool
above_stamp marks r = ltb (num 4 marks (stamp_at (page_of r))) (number_of r)

-- an uncommitted update: whose it is, and that it is well formed
unfoldable pub open_row : Ground → (ℕ → Bool) → List ℕ → Bool
open_row g live r = well_formed g.size g.pages r && between 1 (owner_of r) 32 && eqb (number_of r) 0 && live (owner_of r)

-- the history by itself
pub record PastRight (g : Ground) (done : List (List ℕ)) (h : Past) : Type 0 where
  pub size : h.size ≡ g.size
  pub pages : h.pages ≡ g.pages
  pub start : h.start ≡ g.start
  pub last : h.last ≡ g.base + length done
  pub bound : h.last ≤ 4294967295
  -- the order made is the order committed, but for swaps that no page sees
  pub made : h.made ≅ rows_of g done ++ open_of h
  pub formed : every (well_formed g.size g.pages) done ≡ true
  pub done_wide : Wide 14 done
  pub open_rows : every (open_row g h.live) (open_of h) ≡ true
  pub open_wide : Wide 19 (open_of h)
  pub apart : pairs apart (open_of h) ≡ true

-- the durable part
pub record DurableRight (g : Ground) (done : List (List ℕ)) (d : Durable) : Type 0 where
  pub fixed : length d.fixed ≡ 20
  pub range : in_range (params_of (only d)) ≡ true
  pub size : size_of (only d) ≡ g.size
  pub pages : pages_of (only d) ≡ g.pages
  pub marks : length d.marks ≡ 12 + 8 * g.pages
  pub log : length d.log ≡ 14 * log_size_of (only d)
  pub stored : length d.stored ≡ g.size * g.pages
  pub last : last_of (only d) ≡ g.base + length done
  pub bound : last_of (only d) ≤ 4294967295
  pub logged : logged_of (only d) ≤ log_size_of (only d)
  pub logged_done : logged_of (only d) ≤ length done
  -- the log is the end of all that was committed
  pub log_read : log_of (only d) ≡ drop (length done - logged_of (only d)) done
  pub log_zero : zeros (drop (logged_of (only d) * 14) d.log) ≡ true
  pub stamps : (p : ℕ) → p < g.pages → stamp_of (only d) p ≤ last_of (only d)
  pub closed : closed_of (only d) ≤ last_of (only d)
  pub dirty : (p : ℕ) → p < g.pages → (dirty_of (only d) p ≡ 0) ⊎ ((first_number_of (only d) ≤ dirty_of (only d) p) × (dirty_of (only d) p ≤ closed_of (only d)))
  pub first : first_number_of (only d) ≤ closed_of (only d) + 1
  -- what no stored page holds yet is still in the log, and restart does not pass over it
  pub needed : every (λ (r : List ℕ). not (above_stamp d.marks r) || leb (first_number_of (only d)) (number_of r)) (rows_of g done) ≡ true
  pub entered : every (λ (r : List ℕ). not (above_stamp d.marks r) || not (leb (number_of r) (closed_of (only d)) && eqb (dirty_of (only d) (page_of r)) 0)) (rows_of g done) ≡ true
  -- and the online table has room for it
  pub fits : length (keep (above_stamp d.marks) (rows_of g done)) ≤ online_size_of (only d)
  -- a stored page is the starting page with the committed updates up to its stamp
  pub page : (p : ℕ) → p < g.pages → page_in g.size p d.stored ≡ applied (keep (λ (r : List ℕ). on_page p r && not (above_stamp d.marks r)) (rows_of g done)) (page_in g.size p g.start)

-- the lost part, as lists: `opened` and `live` are the history's
pub record LostRight (g : Ground) (done opened : List (List ℕ)) (live : ℕ → Bool) (frames : ℕ) (marks stored pool order lives entries : List ℕ) (online : List (List ℕ)) : Type 0 where
  pub seated : Seated frames entries order
  pub entries_length : length entries ≡ g.pages
  pub lives_length : length lives ≡ 32
  pub lives_bits : every (λ (b : ℕ). leb b 1) lives ≡ true
  pub alive : (x : ℕ) → 1 ≤ x → x ≤ 32 → eqb (get_or lives (x - 1) 0) 1 ≡ live x
  pub dirty : (p : ℕ) → p < g.pages → is_dirty (get_or entries p 0) ≡ any (on_page p) online
  -- online is what no stored page holds, then what is not committed
  pub online_is : online ≅ keep (above_stamp marks) (rows_of g done) ++ opened
  -- a frame holds its stored page with the page's online records, in table order
  pub frame : (p : ℕ) → p < g.pages → in_frame (get_or entries p 0) ≡ true → page_in g.size (frame_of (get_or entries p 0)) pool ≡ applied (keep (on_page p) online) (page_in g.size p stored)

pub record Right (g : Ground) (done : List (List ℕ)) (h : Past) (s : Lent) : Type 0 where
  pub past : PastRight g done h
  pub durable : DurableRight g done s.durable
  pub whole : Whole s
  pub lost : LostRight g done (open_of h) h.live (frames_of s) s.durable.marks s.durable.stored s.lost.pool (order_of s) (lives_of s) (entries_of s) (online_of s)

-- between a loss and its restart
pub record Down (g : Ground) (done : List (List ℕ)) (h : Past) (s : Lent) : Type 0 where
  pub past : PastRight g done h
  pub durable : DurableRight g done s.durable
  pub areas : Areas s
  pub none_open : open_of h ≡ []
