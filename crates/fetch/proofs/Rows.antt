-- Laws of an update's row: appended to the online table, and read back from it.
use Prim.Native.Nat.{ℕ, ◌+◌, ◌*◌, ◌-◌, ◌≤◌, ◌<◌}
use native.Mathlib.Omega.{arith}
use mathlib.Core.Path.{◌≡◌, sym, ap, ◌∙◌}
use mathlib.Core.Bool.{Bool, true, false, cond}
use mathlib.Core.List.{List, [], ◌∷◌, ◌++◌, map, append_assoc, append-nil}
use lib.ListN.{length, take, drop, set, replicate, length-append, length-take, length-drop, length-set, length-map}
use lib.Seq.{length-take-le, set-append_left, take_at, drop_at}
use Rattle.record.specs.Part.{with_part}
use Rattle.record.specs.Rows.{row_at, rows, joined, table}
use Rattle.record.specs.Record.{page_of, apply}
use Rattle.record.proofs.Laws.{drop_zeros}
use Rattle.rules.proofs.Every.{zeros_are}
use Rattle.record.proofs.Rows.{length_rows, joined_all}
use Rattle.order.specs.Order.{touched}
use Rattle.rules.specs.Lent.{Lent, size_of, pages_of, frames_of, online_size_of, count_of, order_of, entry_at, entry_of, entries_of, online_of, in_frame, dirty_in, page_in, with_page, with_order, with_count}
use Rattle.rules.specs.Sound.{zeros}
use Rattle.rules.specs.Shape.{Shaped}
use Rattle.rules.specs.Steps.{freed, placed, place_of, fetched_entries, fetched_pool, update_tables, updated}
use Rattle.table.proofs.Moves.{set_append_add}
use Rattle.layout.specs.Read.{ParamsRead}
use Rattle.rules.specs.declared.Params.{Params}
use Rattle.fetch.specs.Post.{PageFetched, PageUsed, UpdateDone}

-- a row that was written, read back
pub row_back : (m : ℕ) (l r : List ℕ) → m * 19 ≤ length l → length r ≡ 19 → row_at 19 (with_part (m * 19) 19 l r) m ≡ r
row_back m l r h e =
    ap (λ (k : List ℕ). take 19 k) (drop_at (take (m * 19) l) (r ++ drop 19 (drop (m * 19) l)) (m * 19) (length-take-le (m * 19) l h))
    ∙ take_at r (drop 19 (drop (m * 19) l)) 19 e

joined_last : (rs : List (List ℕ)) (r : List ℕ) → joined (rs ++ (r ∷ [])) ≡ joined rs ++ r
unfolding joined
joined_last [] r = append-nil r
joined_last (x ∷ rs) r = ap (λ (k : List ℕ). x ++ k) (joined_last rs r) ∙ sym (append_assoc x (joined rs) r)

-- a row appended to a table whose other rows are zero
pub row_appended : (m room : ℕ) (l r : List ℕ) → length l ≡ 19 * room → m < room → zeros (drop (m * 19) l) ≡ true → table 19 room (rows 19 m l 0 ++ (r ∷ [])) ≡ with_part (m * 19) 19 l r
unfolding table
row_appended m room l r h q z =
    let n : length (rows 19 m l 0 ++ (r ∷ [])) ≡ m + 1 = length-append (rows 19 m l 0) (r ∷ []) ∙ ap (λ (k : ℕ). k + 1) (length_rows 19 m l 0) in
    let d : length (drop (m * 19) l) - 19 ≡ (room - (m + 1)) * 19 = omega (arith, length-drop (m * 19) l) in
    let e : drop 19 (drop (m * 19) l) ≡ replicate ((room - (m + 1)) * 19) 0 =
    ap (λ (k : List ℕ). drop 19 k) (zeros_are (drop (m * 19) l) z)
    ∙ drop_zeros (length (drop (m * 19) l)) 19
    ∙ ap (λ (k : ℕ). replicate k 0) d
    in
    rw (joined_last, n, joined_all 19 m l, append_assoc, ← e)

-- an entry among the entries
pub set_in_part : (a k p d : ℕ) (t es : List ℕ) → a ≤ length t → p < length es → set (with_part a k t es) (a + p) d ≡ with_part a k t (set es p d)
set_in_part a k p d t es h q =
    ap (λ (n : ℕ). set (with_part a k t es) (n + p) d) (sym (length-take-le a t h))
    ∙ set_append_add (take a t) (es ++ drop k (drop a t)) p d
    ∙ ap (λ (l : List ℕ). take a t ++ l) (set-append_left es (drop k (drop a t)) p d q)

-- a page has its entry before and after it is fetched
length_fetched : (s : Lent) (p : ℕ) → Shaped s → length (fetched_entries s p) ≡ pages_of s
unfolding fetched_entries placed
length_fetched s p h =
    let e : length (entries_of s) ≡ pages_of s =
    omega (arith, length-take (pages_of s) (drop (35 + frames_of s) s.lost.tables), length-drop (35 + frames_of s) s.lost.tables, h.sized.tables)
    in
    pick (in_frame (entry_of s p)) _ e (length-set (map (freed (place_of s p)) (entries_of s)) p _ ∙ length-map (entries_of s) (freed (place_of s p)) ∙ e)
  where
    pick : (b : Bool) (l : List ℕ) → length (entries_of s) ≡ pages_of s → length l ≡ pages_of s → length (cond b (entries_of s) l) ≡ pages_of s
    pick true l x y = x
    pick false l x y = y

-- page p is dirty in its frame, which is the latest used, and there is one online row more
pub changed : (s : Lent) (p f n : ℕ) (given : Params) (m : ℕ) (o t t' g : List ℕ) → Shaped s → p < pages_of s → ParamsRead s.durable.fixed given → m ≡ count_of s → o ≡ order_of s → PageFetched s p f n t g → t' ≡ with_count (m + 1) (with_order given.frames (touched f o) (set t (entry_at given.frames p) (dirty_in f))) → PageUsed s p f n t' g (update_tables s p)
unfolding update_tables
changed s p f n given m o t t' g w q z i j h e =
    let b : 35 + frames_of s ≤ length s.lost.tables = omega (arith, w.sized.tables) in
    let k : p < length (fetched_entries s p) = omega (arith, length_fetched s p w) in
    record {
      frame = h.frame;
      within = h.within;
      reads = h.reads;
      tables = e ∙ rw (z.frames, i, j, h.frame, h.tables, set_in_part (35 + frames_of s) (pages_of s) p (dirty_in (place_of s p)) s.lost.tables (fetched_entries s p) b k);
      pool = h.pool;
    }

-- what `update` leaves, by the row r of page p
pub updated_row : (s : Lent) (r : List ℕ) (p f n : ℕ) (given : Params) (m : ℕ) (t o g g' : List ℕ) → page_of r ≡ p → length r ≡ 19 → Shaped s → count_of s < online_size_of s → zeros (drop (count_of s * 19) s.lost.online) ≡ true → ParamsRead s.durable.fixed given → m ≡ count_of s → PageUsed s p f n t g (update_tables s p) → o ≡ with_part (m * 19) 19 s.lost.online r → g' ≡ with_page given.size f g (apply (row_at 19 o m) (page_in given.size f g)) → UpdateDone s r n t o g'
unfolding updated
updated_row s r p f n given m t o g g' e l w q y z i h eo eg =
    let b : m * 19 ≤ length s.lost.online = omega (arith, w.sized.online) in
    let c : row_at 19 o m ≡ r = rw eo (row_back m s.lost.online r b l) in
    let d : o ≡ table 19 (online_size_of s) (online_of s ++ (r ∷ [])) = eo ∙ rw i (sym (row_appended (count_of s) (online_size_of s) s.lost.online r w.sized.online q y)) in
    let k : g' ≡ with_page (size_of s) (place_of s p) (fetched_pool s p) (apply r (page_in (size_of s) (place_of s p) (fetched_pool s p))) = eg ∙ rw (c, z.size, h.frame, h.pool) in
    record {
      reads = rw e h.reads;
      lent = rw (e, h.tables, d, k);
    }
