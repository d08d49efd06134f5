-- What the lost areas say after each step: the use order, live bytes, page entries and online rows that are read there, and that S2, S3 and S14 of "Sound tables" hold of them.
-- The invariant of a history is about these lists, so each step is judged there on lists only.
use Prim.Native.Nat.{ℕ, ◌+◌, ◌*◌, ◌-◌, ◌%◌, ◌≤◌, ◌<◌}
use native.Mathlib.Omega.{arith}
use mathlib.Core.Path.{◌≡◌, refl, sym, ap, ◌∙◌}
use mathlib.Core.Bool.{Bool, true, false, cond, not}
use mathlib.Core.List.{List, [], ◌∷◌, ◌++◌, map}
use lib.ListN.{length, get_or, drop, set, replicate, length-append, length-set, length-map, length-replicate}
use lib.Dec.{ltb}
use Rattle.record.specs.Part.{part}
use Rattle.record.specs.Rows.{rows, table, keep}
use Rattle.record.specs.Record.{page_of, apply, applied, on_page, owned_by, gone, number_rows}
use Rattle.record.proofs.Parts.{length_part, length_with, one_fits}
use Rattle.record.proofs.Laws.{either_length}
use Rattle.rules.proofs.Every.{every_keep}
use Rattle.record.proofs.Changes.{length_apply, length_applied}
use Rattle.order.specs.Order.{without, touched}
use Rattle.order.proofs.Laws.{length_without}
use Rattle.record.proofs.Rows.{Wide, none, one, keep_length, wide_keep, wide_append, wide_number, length_number, length_table, rows_table, zeros_table}
use Rattle.rules.specs.declared.Params.{Params}
use Rattle.rules.specs.Lent.{Lent, size_of, pages_of, frames_of, online_size_of, last_of, count_of, live_of, order_of, entry_at, entry_of, entries_of, online_of, in_frame, frame_of, is_dirty, dirty_in, page_in, with_page}
use Rattle.rules.specs.Sound.{zeros}
use Rattle.rules.specs.Steps.{begun, freed_of, place_of, freed, placed, rebuilt, fetched_entries, fetched_pool, read_tables, read_step, update_tables, updated, owned, committing, others, frames_freed, judged_anew, aborted, evicted, from_frame, compacted_entry, compacted_order, unfolded, compacted, closed, entering_all, restarted, formatted}
use Rattle.readback.proofs.Seen.{lives_of, Areas, Reads, Whole}
use Rattle.seats.proofs.Loops.{judged_entries, evicted_entries}
use Rattle.readback.proofs.Tables.{Says, says_count, says_order, says_entries, says_entry, says_live, entry_says, live_says, zeros_replicate, says_none, pages_below, says_judged, says_evicted}

-- what the bytes of the online area say
record Lists (room : ℕ) (l : List ℕ) (rs : List (List ℕ)) : Type 0 where
  long : length l ≡ 19 * room
  fits : length rs ≤ room
  read : rows 19 (length rs) l 0 ≡ rs
  zero : zeros (drop (length rs * 19) l) ≡ true
  wide : Wide 19 rs

-- a table that was written anew
lists_table : (room : ℕ) (rs : List (List ℕ)) → Wide 19 rs → length rs ≤ room → Lists room (table 19 room rs) rs
lists_table room rs w h =
    record {
      long = length_table room w h ∙ omega arith;
      fits = h;
      read = rows_table room w;
      zero = ap (λ (l : List ℕ). zeros l) (zeros_table room w) ∙ zeros_replicate ((room - length rs) * 19);
      wide = w;
    }

-- an online area of zeros
lists_none : (n room : ℕ) → n ≡ 19 * room → Lists room (replicate n 0) []
unfolding rows
lists_none n room e =
    record { long = length-replicate {A = ℕ} n 0 ∙ e; fits = omega arith; read = refl; zero = zeros_replicate n; wide = none }

-- the lost areas, each by itself and together
module _ {s : Lent} {order lives entries : List ℕ} {online : List (List ℕ)} (w : Reads s order lives entries online) where
  tables_say : Says (frames_of s) (pages_of s) s.lost.tables (length online) order lives entries
  tables_say =
      record {
        long = w.areas.tables;
        count_read = w.count;
        used = w.used;
        fits = w.frames;
        order_read = ap (λ (n : ℕ). part 35 n s.lost.tables) (sym w.used) ∙ w.order_read;
        order_zero = w.order_zero;
        lives_read = w.lives_read;
        entries_read = w.entries_read;
      }

  online_lists : Lists (online_size_of s) s.lost.online online
  online_lists =
      record {
        long = w.areas.online;
        fits = w.room;
        read = ap (λ (n : ℕ). rows 19 n s.lost.online 0) (sym w.count) ∙ w.online_read;
        zero = w.online_zero;
        wide = w.wide;
      }

together : (s : Lent) (order lives entries : List ℕ) (online : List (List ℕ)) → Says (frames_of s) (pages_of s) s.lost.tables (length online) order lives entries
    → Lists (online_size_of s) s.lost.online online → length s.lost.pool ≡ size_of s * frames_of s → Reads s order lives entries online
together s order lives entries online t o p =
    record {
      areas = record { tables = t.long; online = o.long; pool = p };
      count = t.count_read;
      room = o.fits;
      used = t.used;
      frames = t.fits;
      order_read = ap (λ (n : ℕ). part 35 n s.lost.tables) t.used ∙ t.order_read;
      order_zero = t.order_zero;
      lives_read = t.lives_read;
      entries_read = t.entries_read;
      online_read = ap (λ (n : ℕ). rows 19 n s.lost.online 0) t.count_read ∙ o.read;
      online_zero = o.zero;
      wide = o.wide;
    }

-- lengths: the page entries, also after a fetch, an area with a page written, a page that was read and rebuilt, the pool after a fetch
pub entries_length : (s : Lent) → Areas s → length (entries_of s) ≡ pages_of s
entries_length s a = length_part (35 + frames_of s) (pages_of s) s.lost.tables (omega (arith, a.tables))

pub length_fetched : (s : Lent) (p : ℕ) → Areas s → length (fetched_entries s p) ≡ pages_of s
unfolding fetched_entries placed
length_fetched s p a =
    let f : ℕ = place_of s p in
    let es : List ℕ = entries_of s in
    let h : length es ≡ pages_of s = entries_length s a in
    either_length (in_frame (entry_of s p)) (pages_of s) es (placed f p es) h
    (length-set (map (freed f) es) p (2 * (f + 1) + get_or es p 0 % 2) ∙ length-map es (freed f) ∙ h)

page_length : (f frames size : ℕ) (l g : List ℕ) → f < frames → length l ≡ size * frames → length g ≡ size → length (with_page size f l g) ≡ size * frames
page_length f frames size l g h e q = length_with (f * size) size l g (one_fits f frames size (length l) h e) q ∙ e

pub length_rebuilt : (s : Lent) (p : ℕ) → length s.durable.stored ≡ size_of s * pages_of s → p < pages_of s → length (rebuilt s p) ≡ size_of s
unfolding rebuilt
length_rebuilt s p e h =
    let g : List ℕ = page_in (size_of s) p s.durable.stored in
    let n : length g ≡ size_of s = length_part (p * size_of s) (size_of s) s.durable.stored (one_fits p (pages_of s) (size_of s) (length s.durable.stored) h e) in
    either_length (is_dirty (entry_of s p)) (size_of s) (applied (keep (on_page p) (online_of s)) g) g (length_applied (keep (on_page p) (online_of s)) g ∙ n) n

pub length_fetched_pool : (s : Lent) (p : ℕ) → Areas s → place_of s p < frames_of s → length (rebuilt s p) ≡ size_of s → length (fetched_pool s p) ≡ size_of s * frames_of s
unfolding fetched_pool
length_fetched_pool s p a h q =
    either_length (in_frame (entry_of s p)) (size_of s * frames_of s) s.lost.pool (with_page (size_of s) (place_of s p) s.lost.pool (rebuilt s p)) a.pool
    (page_length (place_of s p) (frames_of s) (size_of s) s.lost.pool (rebuilt s p) h a.pool q)

-- what is read of a store whose lost areas are whole: an entry, a live byte
pub entry_whole : (s : Lent) (p : ℕ) → Whole s → p < pages_of s → entry_of s p ≡ get_or (entries_of s) p 0
entry_whole s p w h = entry_says (tables_say w) p h

pub live_whole : (s : Lent) (x : ℕ) → Whole s → 1 ≤ x → x ≤ 32 → live_of s x ≡ get_or (lives_of s) (x - 1) 0
live_whole s x w h k = live_says (tables_say w) x h k

-- begin
pub reads_begun : (s : Lent) (x : ℕ) → Whole s → 1 ≤ x → x ≤ 32 → Reads (begun s x).lent (order_of s) (set (lives_of s) (x - 1) 1) (entries_of s) (online_of s)
unfolding begun
reads_begun s x w h k =
    together (begun s x).lent (order_of s) (set (lives_of s) (x - 1) 1) (entries_of s) (online_of s) (says_live (tables_say w) x 1 h k) (online_lists w) w.areas.pool

-- evict
pub reads_evicted : (s : Lent) (p : ℕ) → Whole s → p < pages_of s
    → Reads (evicted s p).lent (without (frame_of (entry_of s p)) (order_of s)) (lives_of s) (set (entries_of s) p (entry_of s p % 2)) (online_of s)
unfolding evicted
reads_evicted s p w h =
    let o : List ℕ = without (frame_of (entry_of s p)) (order_of s) in
    let k : length o ≤ frames_of s = omega (arith, length_without (frame_of (entry_of s p)) (order_of s), w.frames) in
    together (evicted s p).lent o (lives_of s) (set (entries_of s) p (entry_of s p % 2)) (online_of s)
    (says_order (says_entry (tables_say w) p (entry_of s p % 2) h) o k) (online_lists w) w.areas.pool

-- read
pub reads_read : (s : Lent) (p : ℕ) → Whole s → length (touched (place_of s p) (order_of s)) ≤ frames_of s → place_of s p < frames_of s → length (rebuilt s p) ≡ size_of s
    → Reads (read_step s p).lent (touched (place_of s p) (order_of s)) (lives_of s) (fetched_entries s p) (online_of s)
unfolding read_step read_tables
reads_read s p w h k q =
    together (read_step s p).lent (touched (place_of s p) (order_of s)) (lives_of s) (fetched_entries s p) (online_of s)
    (says_order (says_entries (tables_say w) (fetched_entries s p) (length_fetched s p w.areas)) (touched (place_of s p) (order_of s)) h)
    (online_lists w) (length_fetched_pool s p w.areas k q)

-- update
module _ (s : Lent) (r : List ℕ) (w : Whole s) (long : length r ≡ 19) (room : count_of s + 1 ≤ online_size_of s) (most : online_size_of s ≤ 512)
    (h : length (touched (place_of s (page_of r)) (order_of s)) ≤ frames_of s) (k : place_of s (page_of r) < frames_of s) (q : length (rebuilt s (page_of r)) ≡ size_of s) where
  appended : length (online_of s ++ (r ∷ [])) ≡ count_of s + 1
  appended = length-append (online_of s) (r ∷ []) ∙ ap (λ (n : ℕ). n + 1) (sym w.count)

  changed_entries : List ℕ
  changed_entries = set (fetched_entries s (page_of r)) (page_of r) (dirty_in (place_of s (page_of r)))

  changed_length : length changed_entries ≡ pages_of s
  unfolding changed_entries
  changed_length = length-set (fetched_entries s (page_of r)) (page_of r) (dirty_in (place_of s (page_of r))) ∙ length_fetched s (page_of r) w.areas

  update_says : Says (frames_of s) (pages_of s) (update_tables s (page_of r)) (length (online_of s ++ (r ∷ []))) (touched (place_of s (page_of r)) (order_of s)) (lives_of s) changed_entries
  unfolding update_tables changed_entries
  update_says =
      rw appended (says_count (says_order (says_entries (tables_say w) changed_entries changed_length) (touched (place_of s (page_of r)) (order_of s)) h) (count_of s + 1) (omega arith))

  frame_length : length (page_in (size_of s) (place_of s (page_of r)) (fetched_pool s (page_of r))) ≡ size_of s
  frame_length =
      length_part (place_of s (page_of r) * size_of s) (size_of s) (fetched_pool s (page_of r))
      (one_fits (place_of s (page_of r)) (frames_of s) (size_of s) (length (fetched_pool s (page_of r))) k (length_fetched_pool s (page_of r) w.areas k q))

  pub reads_updated : Reads (updated s r).lent (touched (place_of s (page_of r)) (order_of s)) (lives_of s) (set (fetched_entries s (page_of r)) (page_of r) (dirty_in (place_of s (page_of r)))) (online_of s ++ (r ∷ []))
  unfolding updated changed_entries
  reads_updated =
      let f : ℕ = place_of s (page_of r) in
      let g : List ℕ = page_in (size_of s) f (fetched_pool s (page_of r)) in
      together (updated s r).lent (touched f (order_of s)) (lives_of s) changed_entries (online_of s ++ (r ∷ [])) update_says
      (lists_table (online_size_of s) (online_of s ++ (r ∷ [])) (wide_append w.wide (one long none)) (omega (arith, appended)))
      (page_length f (frames_of s) (size_of s) (fetched_pool s (page_of r)) (apply r g) k (length_fetched_pool s (page_of r) w.areas k q) (length_apply r g ∙ frame_length))

-- commit
pub reads_committing : (s : Lent) (x : ℕ) → Whole s → 1 ≤ x → x ≤ 32
    → Reads (committing s x).lent (order_of s) (set (lives_of s) (x - 1) 0) (entries_of s) (number_rows x (last_of s + 1) (online_of s))
unfolding committing
reads_committing s x w h k =
    let rs : List (List ℕ) = number_rows x (last_of s + 1) (online_of s) in
    let n : length rs ≡ length (online_of s) = length_number x (last_of s + 1) (online_of s) in
    together (committing s x).lent (order_of s) (set (lives_of s) (x - 1) 0) (entries_of s) rs
    (rw n (says_live (tables_say w) x 0 h k)) (lists_table (online_size_of s) rs (wide_number x (last_of s + 1) w.wide) (omega (arith, w.room))) w.areas.pool

-- rows that are kept in the online table
module _ (s : Lent) (b : List ℕ → Bool) (w : Whole s) where
  kept_fit : length (keep b (online_of s)) ≤ online_size_of s
  kept_fit = omega (arith, keep_length b (online_of s), w.room)

  lists_kept : Lists (online_size_of s) (table 19 (online_size_of s) (keep b (online_of s))) (keep b (online_of s))
  lists_kept = lists_table (online_size_of s) (keep b (online_of s)) (wide_keep b w.wide) kept_fit

-- an order from which frames are freed is no longer
freed_length : (b : Bool) (f n : ℕ) (o : List ℕ) → length o ≤ n → length (cond b (without f o) o) ≤ n
freed_length true f n o h = omega (arith, length_without f o)
freed_length false f n o h = h

freed_all_length : (frames n : ℕ) (t : List ℕ) (rs : List (List ℕ)) (o : List ℕ) → length o ≤ n → length (frames_freed frames t rs o) ≤ n
unfolding frames_freed
freed_all_length frames n t [] o h = h
freed_all_length frames n t (r ∷ rs) o h =
    let e : ℕ = get_or t (entry_at frames (page_of r)) 0 in
    freed_all_length frames n t rs (freed_of e o) (freed_length (in_frame e) (frame_of e) n o h)

compacted_length : (s : Lent) (p n : ℕ) → length (order_of s) ≤ n → length (compacted_order s p) ≤ n
unfolding compacted_order
compacted_length s p n h = go (from_frame s p)
  where
    go : (b : Bool) → length (cond b (order_of s) (freed_of (entry_of s p) (order_of s))) ≤ n
    go true = h
    go false = freed_length (in_frame (entry_of s p)) (frame_of (entry_of s p)) n (order_of s) h

-- abort
pub reads_aborted : (s : Lent) (x : ℕ) → Whole s → online_size_of s ≤ 512 → 1 ≤ x → x ≤ 32 → pages_below (pages_of s) (online_of s) ≡ true
    → Reads (aborted s x).lent (frames_freed (frames_of s) s.lost.tables (owned s x) (order_of s)) (set (lives_of s) (x - 1) 0) (judged_entries (others s x) (owned s x) (entries_of s)) (others s x)
unfolding aborted
reads_aborted s x w most h k b =
    let mine : List (List ℕ) = owned s x in
    let rest : List (List ℕ) = others s x in
    let o : List ℕ = frames_freed (frames_of s) s.lost.tables mine (order_of s) in
    let q : length o ≤ frames_of s = freed_all_length (frames_of s) (frames_of s) s.lost.tables mine (order_of s) w.frames in
    let fit : length rest ≤ online_size_of s = kept_fit s (λ (r : List ℕ). not (gone true x 0 r)) w in
    let judged : Says (frames_of s) (pages_of s) (judged_anew (frames_of s) rest mine s.lost.tables) (length (online_of s)) (order_of s) (lives_of s) (judged_entries rest mine (entries_of s)) =
    says_judged rest mine s.lost.tables (order_of s) (lives_of s) (entries_of s) (every_keep (owned_by x) (λ (r : List ℕ). ltb (page_of r) (pages_of s)) (online_of s) b) (tables_say w) in
    together (aborted s x).lent o (set (lives_of s) (x - 1) 0) (judged_entries rest mine (entries_of s)) rest
    (says_live (says_count (says_order judged o q) (length rest) (omega arith)) x 0 h k)
    (lists_kept s (λ (r : List ℕ). not (gone true x 0 r)) w) w.areas.pool

-- compact
pub reads_compacted : (s : Lent) (p : ℕ) → Whole s → online_size_of s ≤ 512 → p < pages_of s
    → Reads (compacted s p).lent (compacted_order s p) (lives_of s) (set (entries_of s) p (compacted_entry s p)) (unfolded s p)
unfolding compacted
reads_compacted s p w most h =
    let q : length (compacted_order s p) ≤ frames_of s = compacted_length s p (frames_of s) w.frames in
    let fit : length (unfolded s p) ≤ online_size_of s = kept_fit s (λ (r : List ℕ). not (gone false 0 p r)) w in
    together (compacted s p).lent (compacted_order s p) (lives_of s) (set (entries_of s) p (compacted_entry s p)) (unfolded s p)
    (says_count (says_order (says_entry (tables_say w) p (compacted_entry s p) h) (compacted_order s p) q) (length (unfolded s p)) (omega arith))
    (lists_kept s (λ (r : List ℕ). not (gone false 0 p r)) w) w.areas.pool

-- close leaves the lost areas as they are
pub reads_closed : (s : Lent) → Whole s → Reads (closed s).lent (order_of s) (lives_of s) (entries_of s) (online_of s)
unfolding closed
reads_closed s w = together (closed s).lent (order_of s) (lives_of s) (entries_of s) (online_of s) (tables_say w) (online_lists w) w.areas.pool

-- restart
pub reads_restarted : (s : Lent) → Areas s → online_size_of s ≤ 512 → length (entering_all s) ≤ online_size_of s → Wide 19 (entering_all s) → pages_below (pages_of s) (entering_all s) ≡ true
    → Reads (restarted s).lent [] (replicate 32 0) (evicted_entries (entering_all s) (replicate (pages_of s) 0)) (entering_all s)
unfolding restarted
reads_restarted s a most h v b =
    let rs : List (List ℕ) = entering_all s in
    let t : List ℕ = replicate (length s.lost.tables) 0 in
    let z : Says (frames_of s) (pages_of s) t 0 [] (replicate 32 0) (replicate (pages_of s) 0) = rw a.tables (says_none (frames_of s) (pages_of s)) in
    together (restarted s).lent [] (replicate 32 0) (evicted_entries rs (replicate (pages_of s) 0)) rs
    (says_count (says_evicted rs t [] (replicate 32 0) (replicate (pages_of s) 0) b z) (length rs) (omega arith))
    (lists_table (online_size_of s) rs v h) a.pool

-- format: what it fixed is read in the new store
pub reads_formatted : (s : Lent) (g : Params) (last : ℕ) → length s.lost.tables ≡ 35 + g.frames + g.pages → length s.lost.online ≡ 19 * g.online → length s.lost.pool ≡ g.size * g.frames
    → size_of (formatted s g last).lent ≡ g.size → pages_of (formatted s g last).lent ≡ g.pages
    → frames_of (formatted s g last).lent ≡ g.frames → online_size_of (formatted s g last).lent ≡ g.online
    → Reads (formatted s g last).lent [] (replicate 32 0) (replicate g.pages 0) []
unfolding formatted
reads_formatted s g last t o p es ep ef er =
    let z : Says g.frames g.pages (replicate (length s.lost.tables) 0) 0 [] (replicate 32 0) (replicate g.pages 0) = rw t (says_none g.frames g.pages) in
    together (formatted s g last).lent [] (replicate 32 0) (replicate g.pages 0) []
    (rw (ef, ep) z) (rw er (lists_none (length s.lost.online) g.online o)) (rw (es, ef) p)
