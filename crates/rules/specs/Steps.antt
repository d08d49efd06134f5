-- "The steps" of document 01, on lent tables that are sound and arguments that are in range: what each call does when it is not refused. docs/RULES.md 6 and 7.
use Rattle.std.specs.Prelude.{ℕ, zero, suc, ◌+◌, ◌*◌, ◌-◌, ◌/◌, ◌%◌, Bool, cond, not, ◌&&◌, ◌||◌, List, [], ◌∷◌, ◌++◌, map, length, get_or, drop, set, replicate, eqb, leb}
use Rattle.word.specs.Word.{num, put}
use Rattle.record.specs.Part.{part, with_part}
use Rattle.record.specs.Rows.{table, cons_if, keep, any}
use Rattle.record.specs.Record.{online_width, log_width, page_of, number_of, committed, body_of, apply, applied, entered, on_page, committed_on, owned_by, number_rows, lesser, smallest, greatest}
use Rattle.order.specs.Order.{without, touched, frame_for}
use Rattle.rules.specs.declared.Params.{Params}
use Rattle.rules.specs.Lent.{Lent, last_at, closed_at, logged_at, fixed_of, lent_of, size_of, pages_of, frames_of, online_size_of, log_size_of, last_of, closed_of, logged_of, stamp_at, dirty_at, stamp_of, dirty_of, first_number_of, log_of, count_of, live_at, order_of, entry_at, entry_of, entries_of, online_of, in_frame, frame_of, is_dirty, clean_in, dirty_in, page_in, with_page, with_order, with_entries, with_count}

-- the lent bytes with other tables, and so on
abbrev pub lost_now : Lent → List ℕ → List ℕ → List ℕ → Lent
lost_now s tables online pool = lent_of s.durable.fixed s.durable.marks s.durable.log s.durable.stored tables online pool

-- what a step leaves, and its counts
pub record Left : Type 0 where
  pub lent : Lent
  pub reads : ℕ
  pub writes : ℕ
  pub logs : ℕ

abbrev pub left : Lent → ℕ → ℕ → ℕ → Left
left s r w l = record { lent = s; reads = r; writes = w; logs = l }

-- one step after another: the bytes of the later, and "the sum of its steps" as counts
abbrev pub and_then : Left → Left → Left
and_then d e = left e.lent (d.reads + e.reads) (d.writes + e.writes) (d.logs + e.logs)

-- "Begin makes the number live."
unfoldable pub begun : Lent → ℕ → Left
begun s x = left (lost_now s (set s.lost.tables (live_at x) 1) s.lost.online s.lost.pool) 0 0 0

-- the order once a page of this entry has lost its frame
abbrev pub freed_of : ℕ → List ℕ → List ℕ
freed_of e o = cond (in_frame e) (without (frame_of e) o) o

-- Fetch. "A page in a frame is used there. Otherwise the lowest free frame is taken, or, with none free, the least recently used page is evicted."
abbrev pub place_of : Lent → ℕ → ℕ
place_of s p = cond (in_frame (entry_of s p)) (frame_of (entry_of s p)) (frame_for (frames_of s) (order_of s))

-- an entry after frame f was freed: "clean becomes absent, dirty becomes evicted"
abbrev pub freed : ℕ → ℕ → ℕ
freed f e = cond (eqb (e / 2) (f + 1)) (e % 2) e

-- the entries once page p is in frame f: "it becomes dirty in its frame; if absent, clean"
unfoldable pub placed : ℕ → ℕ → List ℕ → List ℕ
placed f p es = set (map (freed f) es) p (clean_in f + get_or es p 0 % 2)

-- "The stored page is read. If the entry was evicted, the page's online records are applied in table order"
unfoldable pub rebuilt : Lent → ℕ → List ℕ
rebuilt s p = cond (is_dirty (entry_of s p)) (applied (keep (on_page p) (online_of s)) (page_in (size_of s) p s.durable.stored)) (page_in (size_of s) p s.durable.stored)

unfoldable pub fetched_entries : Lent → ℕ → List ℕ
fetched_entries s p = cond (in_frame (entry_of s p)) (entries_of s) (placed (place_of s p) p (entries_of s))

unfoldable pub fetched_pool : Lent → ℕ → List ℕ
fetched_pool s p = cond (in_frame (entry_of s p)) s.lost.pool (with_page (size_of s) (place_of s p) s.lost.pool (rebuilt s p))

-- "one exactly if the page was in no frame"
abbrev pub fetch_reads : Lent → ℕ → ℕ
fetch_reads s p = cond (in_frame (entry_of s p)) 0 1

-- "Read … copies those bytes to the front of the caller's buffer; the rest of that buffer stays." "Read and update make their frame the latest used"
unfoldable pub read_tables : Lent → ℕ → List ℕ
read_tables s p = with_order (frames_of s) (touched (place_of s p) (order_of s)) (with_entries (frames_of s) (pages_of s) (fetched_entries s p) s.lost.tables)

unfoldable pub read_step : Lent → ℕ → Left
read_step s p = left (lost_now s (read_tables s p) s.lost.online (fetched_pool s p)) (fetch_reads s p) 0 0

unfoldable pub read_bytes : Lent → ℕ → ℕ → ℕ → List ℕ → List ℕ
read_bytes s p offset w buffer = part offset w (page_in (size_of s) (place_of s p) (fetched_pool s p)) ++ drop w buffer

-- "Update fetches, applies, appends the record with its owner, and marks the page dirty."
unfoldable pub update_tables : Lent → ℕ → List ℕ
update_tables s p = with_count (count_of s + 1) (with_order (frames_of s) (touched (place_of s p) (order_of s)) (with_entries (frames_of s) (pages_of s) (set (fetched_entries s p) p (dirty_in (place_of s p))) s.lost.tables))

unfoldable pub updated : Lent → List ℕ → Left
updated s r =
    left
    (lost_now s (update_tables s (page_of r)) (table online_width (online_size_of s) (online_of s ++ (r ∷ []))) (with_page (size_of s) (place_of s (page_of r)) (fetched_pool s (page_of r)) (apply r (page_in (size_of s) (place_of s (page_of r)) (fetched_pool s (page_of r))))))
    (fetch_reads s (page_of r)) 0 0

-- "Commit numbers the owner's k records L+1 to L+k in table order, appends them to the log, clears the owner, ends the transaction."
abbrev pub owned : Lent → ℕ → List (List ℕ)
owned s x = keep (owned_by x) (online_of s)

unfoldable pub committing : Lent → ℕ → Left
committing s x =
    left
    (lent_of s.durable.fixed
    (put 4 (put 4 s.durable.marks last_at (last_of s + length (owned s x))) logged_at (logged_of s + length (owned s x)))
    (table log_width (log_size_of s) (log_of s ++ map body_of (owned s x)))
    s.durable.stored
    (set s.lost.tables (live_at x) 0)
    (table online_width (online_size_of s) (number_rows x (last_of s + 1) (online_of s)))
    s.lost.pool)
    0 0 (cond (eqb (length (owned s x)) 0) 0 1)

-- "Abort deletes the owner's records, the others keeping their order. Each page that had one loses its frame; its entry becomes evicted if records remain, else absent. The transaction ends."
abbrev pub others : Lent → ℕ → List (List ℕ)
others s x = keep (λ (r : List ℕ). not (owned_by x r)) (online_of s)

-- the order without the frames of these rows' pages
unfoldable pub frames_freed : ℕ → List ℕ → List (List ℕ) → List ℕ → List ℕ
frames_freed frames tables [] o = o
frames_freed frames tables (r ∷ rs) o = frames_freed frames tables rs (freed_of (get_or tables (entry_at frames (page_of r)) 0) o)

-- the tables with these rows' pages judged anew by the rows that remain
unfoldable pub judged_anew : ℕ → List (List ℕ) → List (List ℕ) → List ℕ → List ℕ
judged_anew frames remain [] t = t
judged_anew frames remain (r ∷ rs) t = judged_anew frames remain rs (set t (entry_at frames (page_of r)) (cond (any (on_page (page_of r)) remain) 1 0))

unfoldable pub aborted : Lent → ℕ → Left
aborted s x =
    left
    (lost_now s
    (set (with_count (length (others s x)) (with_order (frames_of s) (frames_freed (frames_of s) s.lost.tables (owned s x) (order_of s)) (judged_anew (frames_of s) (others s x) (owned s x) s.lost.tables))) (live_at x) 0)
    (table online_width (online_size_of s) (others s x))
    s.lost.pool)
    0 0 0

-- "Evict frees the frame: clean becomes absent, dirty becomes evicted. Nothing is written."
unfoldable pub evicted : Lent → ℕ → Left
evicted s p =
    left
    (lost_now s (with_order (frames_of s) (without (frame_of (entry_of s p)) (order_of s)) (set s.lost.tables (entry_at (frames_of s) p) (entry_of s p % 2))) s.lost.online s.lost.pool)
    0 0 0

-- Compact. "Let c be the page's committed records and f their smallest number."
abbrev pub foldable : Lent → ℕ → List (List ℕ)
foldable s p = keep (committed_on p) (online_of s)

-- "Due if c ≥ 1 and (c ≥ min_del or L − f ≥ max_age)."
unfoldable pub due : Lent → ℕ → ℕ → ℕ → Bool
due s p min_del max_age = leb 1 (length (foldable s p)) && (leb min_del (length (foldable s p)) || leb max_age (last_of s - smallest 0 (foldable s p)))

-- all its records are committed, and the page is in a frame: "written from there"
unfoldable pub from_frame : Lent → ℕ → Bool
from_frame s p = eqb (length (foldable s p)) (length (keep (on_page p) (online_of s))) && in_frame (entry_of s p)

unfoldable pub compacted_page : Lent → ℕ → List ℕ
compacted_page s p = cond (from_frame s p) (page_in (size_of s) (frame_of (entry_of s p)) s.lost.pool) (applied (foldable s p) (page_in (size_of s) p s.durable.stored))

-- clean in its frame; else absent where all were committed, evicted where some were not
unfoldable pub compacted_entry : Lent → ℕ → ℕ
compacted_entry s p = cond (from_frame s p) (clean_in (frame_of (entry_of s p))) (cond (eqb (length (foldable s p)) (length (keep (on_page p) (online_of s)))) 0 1)

unfoldable pub compacted_order : Lent → ℕ → List ℕ
compacted_order s p = cond (from_frame s p) (order_of s) (freed_of (entry_of s p) (order_of s))

abbrev pub unfolded : Lent → ℕ → List (List ℕ)
unfolded s p = keep (λ (r : List ℕ). not (committed_on p r)) (online_of s)

unfoldable pub compacted : Lent → ℕ → Left
compacted s p =
    left
    (lent_of s.durable.fixed
    (put 4 s.durable.marks (stamp_at p) (greatest 0 (foldable s p)))
    s.durable.log
    (with_page (size_of s) p s.durable.stored (compacted_page s p))
    (with_count (length (unfolded s p)) (with_order (frames_of s) (compacted_order s p) (set s.lost.tables (entry_at (frames_of s) p) (compacted_entry s p))))
    (table online_width (online_size_of s) (unfolded s p))
    s.lost.pool)
    (cond (from_frame s p) 0 1) 1 0

-- compact as a step: nothing changes where it is not due
unfoldable pub compact_step : ℕ → ℕ → Lent → ℕ → Left
compact_step min_del max_age s p = cond (due s p min_del max_age) (compacted s p) (left s 0 0 0)

-- "Close sets each page's dirty number to its smallest committed online number, or 0": each row in turn lowers its page's number
unfoldable pub lowered : ℕ → List (List ℕ) → List ℕ → List ℕ
lowered pages [] ms = ms
lowered pages (r ∷ rs) ms = lowered pages rs (cond (committed r) (put 4 ms (dirty_at pages (page_of r)) (lesser (num 4 ms (dirty_at pages (page_of r))) (number_of r))) ms)

-- how many log records are dropped: those "below the smallest nonzero dirty number, or all if none"
unfoldable pub dropped_by : Lent → ℕ
dropped_by s = cond (eqb (smallest 0 (keep committed (online_of s))) 0) (logged_of s) (smallest 0 (keep committed (online_of s)) - first_number_of s)

unfoldable pub closed : Lent → Left
closed s =
    left
    (lent_of s.durable.fixed
    (put 4 (put 4 (lowered (pages_of s) (online_of s) (with_part (dirty_at (pages_of s) 0) (4 * pages_of s) s.durable.marks (replicate (4 * pages_of s) 0))) closed_at (last_of s)) logged_at (logged_of s - dropped_by s))
    (table log_width (log_size_of s) (drop (dropped_by s) (log_of s)))
    s.durable.stored
    s.lost.tables s.lost.online s.lost.pool)
    0 0 1

-- "Checkpoint is compact for each page, ascending, then close": the state after the first j compactions
unfoldable pub after_pages : ℕ → ℕ → ℕ → Lent → Left
after_pages min_del max_age zero s = left s 0 0 0
after_pages min_del max_age (suc j) s = onward (after_pages min_del max_age j s)
  where
    onward : Left → Left
    onward d = and_then d (compact_step min_del max_age d.lent j)

unfoldable pub checkpointed : ℕ → ℕ → Lent → Left
checkpointed min_del max_age s = then_close (after_pages min_del max_age (pages_of s) s)
  where
    then_close : Left → Left
    then_close d = and_then d (closed d.lent)

-- Restart. "one numbered at most K whose page's dirty number is 0 is passed over; one numbered at most the page's stamp is passed over; any other enters"
abbrev pub enters : Lent → ℕ → List ℕ → Bool
enters s k b = not (leb k (closed_of s) && eqb (dirty_of s (page_of b)) 0) && not (leb k (stamp_of s (page_of b)))

-- the log records from number k on that enter, "as committed"
unfoldable pub entering : Lent → ℕ → List (List ℕ) → List (List ℕ)
entering s k [] = []
entering s k (b ∷ bs) = cons_if (enters s k b) (entered b k) (entering s (k + 1) bs)

abbrev pub entering_all : Lent → List (List ℕ)
entering_all s = entering s (first_number_of s) (log_of s)

-- "and its page becomes evicted"
unfoldable pub evicted_all : ℕ → List (List ℕ) → List ℕ → List ℕ
evicted_all frames [] t = t
evicted_all frames (r ∷ rs) t = evicted_all frames rs (set t (entry_at frames (page_of r)) 1)

-- "Restart empties the lost part … The durable part and all frame bytes stay."
unfoldable pub restarted : Lent → Left
restarted s =
    left
    (lost_now s
    (with_count (length (entering_all s)) (evicted_all (frames_of s) (entering_all s) (replicate (length s.lost.tables) 0)))
    (table online_width (online_size_of s) (entering_all s))
    s.lost.pool)
    0 0 0

-- "Format takes stored pages as they are, sets stamps and K to the L given, empties all else; frame bytes stay."
unfoldable pub stamped : ℕ → ℕ → ℕ → List ℕ → List ℕ
stamped zero p last ms = ms
stamped (suc n) p last ms = stamped n (p + 1) last (put 4 ms (stamp_at p) last)

unfoldable pub formatted : Lent → Params → ℕ → Left
formatted s g last =
    left
    (lent_of
    (fixed_of g)
    (stamped g.pages 0 last (put 4 (put 4 (replicate (length s.durable.marks) 0) last_at last) closed_at last))
    (replicate (length s.durable.log) 0)
    s.durable.stored
    (replicate (length s.lost.tables) 0)
    (replicate (length s.lost.online) 0)
    s.lost.pool)
    0 0 0
