-- Read and update keep what is right, and a fetched page is the stored page with its online records.
-- Both fetch: what holds of the lost part after a fetch is shown once, over plain lists, for a page in a frame and for one in none.
use Prim.Native.Nat.{ℕ, ◌+◌, ◌*◌, ◌≤◌, ◌<◌, ◌^◌}
use native.Mathlib.Omega.{arith}
use mathlib.Core.Path.{◌≡◌, refl, sym, ap, ◌∙◌, subst}
use mathlib.Core.Bool.{Bool, true, false, cond, not, ◌||◌, or-true, not-not}
use mathlib.Core.List.{List, [], ◌∷◌, ◌++◌, append-nil, append_assoc}
use lib.ListN.{length, get_or, set}
use lib.Dec.{eqb}
use borrow.Author.Tests.{eqb-true, eqb-false, eq-eqb, ne_eqb, lt-ltb, le-leb}
use Rattle.record.specs.Rows.{keep, cons_if, any}
use Rattle.record.specs.Record.{page_of, offset_of, length_of, owner_of, committed, is_length, well_formed, apply, applied, row_of, on_page}
use Rattle.record.proofs.Laws.{length_most}
use Rattle.record.proofs.Changes.{length_apply}
use Rattle.order.specs.Order.{touched, frame_for}
use Rattle.record.proofs.Rows.{length_row_of}
use Rattle.rules.specs.Lent.{Lent, size_of, pages_of, frames_of, online_size_of, count_of, order_of, entry_of, entries_of, online_of, in_frame, frame_of, is_dirty, dirty_in, page_in, with_page}
use Rattle.rules.specs.Steps.{placed, place_of, rebuilt, fetched_entries, fetched_pool, read_step, updated}
use Rattle.rules.specs.Calls.{held_to_update}
use Rattle.rules.specs.Sound.{every, apart}
use Rattle.rules.proofs.Every.{every_imp}
use Rattle.redo.proofs.View.{applied_append, keep_append}
use Rattle.redo.proofs.Views.{keep_none}
use Rattle.redo.proofs.Loose.{then, ≅-equal, ≅-before, ≅-any}
use Rattle.redo.proofs.Reader.{none_each, none_after}
use Rattle.record.proofs.Fields.{row_page, row_offset, row_length, row_kind, row_value, row_owner, row_number}
use Rattle.seats.proofs.Seated.{Seated}
use Rattle.seats.proofs.Places.{dirty_frame, dirty_dirty, placed_length, placed_in, placed_frame, placed_dirty, placed_stays, seated_below, seated_apart, seated_length, seated_frame, seated_touch, seated_place, seated_dirty}
use Rattle.readback.proofs.Seen.{lives_of}
use Rattle.readback.proofs.Pages.{page_length, page_same, page_other}
use Rattle.readback.proofs.Lost.{entry_whole, length_rebuilt, length_fetched_pool, reads_read, reads_updated}
use Rattle.keeps.proofs.Tests.{any_last}
use Rattle.history.specs.Past.{Past, updates}
use Rattle.history.proofs.Right.{Ground, LostRight, Right, above_stamp, rows_of, open_of, open_row}
use Rattle.history.proofs.Settle.{settle}
use Rattle.history.proofs.Facts.{ranges, stored_long}
use Rattle.history.proofs.Pasts.{open_update, past_update}
use Rattle.history.proofs.Carried.{lost_entry}

-- a page with no online record is the stored page
applied_none : (online : List (List ℕ)) (p : ℕ) (page : List ℕ) → any (on_page p) online ≡ false → applied (keep (on_page p) online) page ≡ page
unfolding applied
applied_none online p page h = ap (λ (l : List (List ℕ)). applied l page) (keep_none (on_page p) online (none_each (on_page p) online h))

module _ {g : Ground} {done opened : List (List ℕ)} {live : ℕ → Bool} {frames : ℕ} {marks stored pool order lives entries : List ℕ} {online : List (List ℕ)} (l : LostRight g done opened live frames marks stored pool order lives entries online) (p : ℕ) (m : p < g.pages) where
  among : p < length entries
  among = omega (arith, l.entries_length)

  -- fetch: "A page in a frame is used there."
  lost_touch : in_frame (get_or entries p 0) ≡ true → LostRight g done opened live frames marks stored pool (touched (frame_of (get_or entries p 0)) order) lives entries online
  lost_touch i =
      record {
        seated = seated_touch l.seated p among i;
        entries_length = l.entries_length;
        lives_length = l.lives_length;
        lives_bits = l.lives_bits;
        alive = l.alive;
        dirty = l.dirty;
        online_is = l.online_is;
        frame = l.frame;
      }

  -- "The stored page is read. If the entry was evicted, the page's online records are applied in table order": if it was absent, there are none
  rebuilt_page : cond (is_dirty (get_or entries p 0)) (applied (keep (on_page p) online) (page_in g.size p stored)) (page_in g.size p stored) ≡ applied (keep (on_page p) online) (page_in g.size p stored)
  rebuilt_page = go (is_dirty (get_or entries p 0)) refl
    where
      go : (b : Bool) → is_dirty (get_or entries p 0) ≡ b → cond b (applied (keep (on_page p) online) (page_in g.size p stored)) (page_in g.size p stored) ≡ applied (keep (on_page p) online) (page_in g.size p stored)
      go true e = refl
      go false e = sym (applied_none online p (page_in g.size p stored) (sym (l.dirty p m) ∙ e))

  -- otherwise it is placed in frame f, which is freed before; the other frames hold what they held
  module _ (f : ℕ) (below : f < frames) (out : in_frame (get_or entries p 0) ≡ false) (long : length pool ≡ g.size * frames) (page : List ℕ) (same : page ≡ applied (keep (on_page p) online) (page_in g.size p stored)) (full : length page ≡ g.size) where
    placed_holds : (q : ℕ) → q < g.pages → in_frame (get_or (placed f p entries) q 0) ≡ true → page_in g.size (frame_of (get_or (placed f p entries) q 0)) (with_page g.size f pool page) ≡ applied (keep (on_page q) online) (page_in g.size q stored)
    placed_holds q n i = go (eqb q p) refl
      where
        go : (b : Bool) → eqb q p ≡ b → page_in g.size (frame_of (get_or (placed f p entries) q 0)) (with_page g.size f pool page) ≡ applied (keep (on_page q) online) (page_in g.size q stored)
        go true e =
            rw (eqb-true q p e)
            (ap (λ (k : ℕ). page_in g.size k (with_page g.size f pool page)) (placed_frame f p entries among)
            ∙ page_same g.size frames pool long f below page full ∙ same)
        go false e =
            let d = placed_stays f p q entries (eqb-false q p e) i in
            let k : frame_of (get_or entries q 0) < frames = seated_below l.seated q (omega (arith, l.entries_length)) d.1 in
            ap (λ (z : ℕ). page_in g.size (frame_of z) (with_page g.size f pool page)) d.0
            ∙ page_other g.size frames pool long f below page full (frame_of (get_or entries q 0)) k d.2
            ∙ l.frame q n d.1

    lost_place : LostRight g done opened live frames marks stored (with_page g.size f pool page) (touched f order) lives (placed f p entries) online
    lost_place =
        record {
          seated = seated_place l.seated f p below among out;
          entries_length = placed_length f p entries ∙ l.entries_length;
          lives_length = l.lives_length;
          lives_bits = l.lives_bits;
          alive = l.alive;
          dirty = λ q n. placed_dirty f p q entries among ∙ l.dirty q n;
          online_is = l.online_is;
          frame = placed_holds;
        }

-- fetch of page p
module _ {g : Ground} {done : List (List ℕ)} {h : Past} {s : Lent} (p : ℕ) (m : p < pages_of s) (r : Right g done h s) where
  there : p < g.pages
  there = omega (arith, r.durable.pages)

  sized : size_of s ≡ g.size
  sized = r.durable.size

  entry : entry_of s p ≡ get_or (entries_of s) p 0
  entry = entry_whole s p r.whole m

  -- what is read and rebuilt is the stored page with the page's online records
  rebuilt_is : rebuilt s p ≡ applied (keep (on_page p) (online_of s)) (page_in g.size p s.durable.stored)
  unfolding rebuilt
  rebuilt_is =
      ap (λ (n : ℕ). cond (is_dirty (entry_of s p)) (applied (keep (on_page p) (online_of s)) (page_in n p s.durable.stored)) (page_in n p s.durable.stored)) sized
      ∙ ap (λ (e : ℕ). cond (is_dirty e) (applied (keep (on_page p) (online_of s)) (page_in g.size p s.durable.stored)) (page_in g.size p s.durable.stored)) entry
      ∙ rebuilt_page r.lost p there

  rebuilt_length : length (rebuilt s p) ≡ size_of s
  rebuilt_length = length_rebuilt s p (stored_long r.durable) m

  -- the frame that the page is in once it was fetched
  below : place_of s p < frames_of s
  below = go (in_frame (entry_of s p)) refl
    where
      go : (b : Bool) → in_frame (entry_of s p) ≡ b → cond b (frame_of (entry_of s p)) (frame_for (frames_of s) (order_of s)) < frames_of s
      go true i = rw entry (seated_below r.lost.seated p (among r.lost p there) (ap (λ (e : ℕ). in_frame e) (sym entry) ∙ i))
      go false i = seated_frame r.lost.seated (ranges r.durable).frames_least

  -- the lost part with page p in frame f, the latest used
  abbrev Fetched : ℕ → List ℕ → List ℕ → Type 0
  Fetched f pool entries =
      LostRight g done (open_of h) h.live (frames_of s) s.durable.marks s.durable.stored pool (touched f (order_of s)) (lives_of s) entries (online_of s)
      × (in_frame (get_or entries p 0) ≡ true) × (frame_of (get_or entries p 0) ≡ f)

  fetched_right : Fetched (place_of s p) (fetched_pool s p) (fetched_entries s p)
  unfolding fetched_pool fetched_entries
  fetched_right = go (in_frame (entry_of s p)) refl below
    where
      pool : List ℕ
      pool = s.lost.pool

      es : List ℕ
      es = entries_of s

      place : Bool → ℕ
      place b = cond b (frame_of (entry_of s p)) (frame_for (frames_of s) (order_of s))

      go : (b : Bool) → in_frame (entry_of s p) ≡ b → place b < frames_of s → Fetched (place b) (cond b pool (with_page (size_of s) (place b) pool (rebuilt s p))) (cond b es (placed (place b) p es))
      go true i k =
          let j : in_frame (get_or es p 0) ≡ true = ap (λ (e : ℕ). in_frame e) (sym entry) ∙ i in
          subst (λ (e : ℕ). Fetched (frame_of e) pool es) (sym entry) (lost_touch r.lost p there j, j, refl)
      go false i k =
          let j : in_frame (get_or es p 0) ≡ false = ap (λ (e : ℕ). in_frame e) (sym entry) ∙ i in
          let f : ℕ = frame_for (frames_of s) (order_of s) in
          let z = among r.lost p there in
          subst (λ (n : ℕ). Fetched f (with_page n f pool (rebuilt s p)) (placed f p es)) (sym sized)
          (lost_place r.lost p there f k j (r.whole.areas.pool ∙ ap (λ (n : ℕ). n * frames_of s) sized) (rebuilt s p) rebuilt_is (rebuilt_length ∙ sized), placed_in f p es z, placed_frame f p es z)

  -- its frame holds the stored page with the page's online records, in table order
  pub fetched_page : page_in (size_of s) (place_of s p) (fetched_pool s p) ≡ applied (keep (on_page p) (online_of s)) (page_in (size_of s) p s.durable.stored)
  fetched_page =
      ap (λ (n : ℕ). page_in n (place_of s p) (fetched_pool s p)) sized
      ∙ ap (λ (f : ℕ). page_in g.size f (fetched_pool s p)) (sym fetched_right.2)
      ∙ fetched_right.0.frame p there fetched_right.1
      ∙ ap (λ (n : ℕ). applied (keep (on_page p) (online_of s)) (page_in n p s.durable.stored)) (sym sized)

  order_fits : length (touched (place_of s p) (order_of s)) ≤ frames_of s
  order_fits = seated_length fetched_right.0.seated

  -- read keeps what is right
  pub keeps_read : Right g done h (read_step s p).lent
  unfolding read_step
  keeps_read = settle (reads_read s p r.whole order_fits below rebuilt_length) r.past r.durable fetched_right.0

-- update of page p in its frame f: "applies, appends the record with its owner, and marks the page dirty"
module _ {g : Ground} {done opened : List (List ℕ)} {live : ℕ → Bool} {frames : ℕ} {marks stored pool order lives entries : List ℕ} {online : List (List ℕ)} (l : LostRight g done opened live frames marks stored pool order lives entries online) (p f : ℕ) (m : p < g.pages) (i : in_frame (get_or entries p 0) ≡ true) (at : frame_of (get_or entries p 0) ≡ f) (long : length pool ≡ g.size * frames) (r : List ℕ) (on : page_of r ≡ p) where
  -- the row is one of page p and of no other
  row_here : on_page p r ≡ true
  row_here = eq-eqb (page_of r) p on

  row_else : (q : ℕ) → (q ≡ p → ⊥) → on_page q r ≡ false
  row_else q n = ne_eqb (page_of r) q (λ z. n (sym z ∙ on))

  kept_here : keep (on_page p) (online ++ (r ∷ [])) ≡ keep (on_page p) online ++ (r ∷ [])
  unfolding keep
  kept_here = keep_append (on_page p) online (r ∷ []) ∙ ap (λ (t : Bool). keep (on_page p) online ++ cons_if t r []) row_here

  kept_else : (q : ℕ) → (q ≡ p → ⊥) → keep (on_page q) (online ++ (r ∷ [])) ≡ keep (on_page q) online
  unfolding keep
  kept_else q n = keep_append (on_page q) online (r ∷ []) ∙ ap (λ (t : Bool). keep (on_page q) online ++ cons_if t r []) (row_else q n) ∙ append-nil (keep (on_page q) online)

  updated_dirty : is_dirty (dirty_in f) ≡ any (on_page p) (online ++ (r ∷ []))
  updated_dirty = dirty_dirty f ∙ sym (any_last (on_page p) online r ∙ ap (λ (t : Bool). any (on_page p) online || t) row_here ∙ or-true (any (on_page p) online))

  below_frames : f < frames
  below_frames = rw (← at) (seated_below l.seated p (among l p m) i)

  abbrev page : List ℕ
  page = apply r (page_in g.size f pool)

  page_full : length page ≡ g.size
  page_full = length_apply r (page_in g.size f pool) ∙ page_length g.size frames pool long f below_frames

  updated_shows : page_in g.size (frame_of (dirty_in f)) (with_page g.size f pool page) ≡ applied (keep (on_page p) (online ++ (r ∷ []))) (page_in g.size p stored)
  unfolding applied
  updated_shows =
      ap (λ (k : ℕ). page_in g.size k (with_page g.size f pool page)) (dirty_frame f)
      ∙ page_same g.size frames pool long f below_frames page page_full
      ∙ ap (λ (x : List ℕ). apply r x) (ap (λ (k : ℕ). page_in g.size k pool) (sym at) ∙ l.frame p m i)
      ∙ sym (ap (λ (k : List (List ℕ)). applied k (page_in g.size p stored)) kept_here ∙ applied_append (keep (on_page p) online) (r ∷ []) (page_in g.size p stored))

  -- another page's frame is another
  updated_else : (q : ℕ) → q < g.pages → (q ≡ p → ⊥) → in_frame (get_or entries q 0) ≡ true → page_in g.size (frame_of (get_or entries q 0)) (with_page g.size f pool page) ≡ page_in g.size (frame_of (get_or entries q 0)) pool
  updated_else q n d j =
      page_other g.size frames pool long f below_frames page page_full (frame_of (get_or entries q 0)) (seated_below l.seated q (among l q n) j)
      (λ y. seated_apart l.seated q p (among l q n) (among l p m) d j i (y ∙ sym at))

  lost_update : LostRight g done (opened ++ (r ∷ [])) live frames marks stored (with_page g.size f pool page) order lives (set entries p (dirty_in f)) (online ++ (r ∷ []))
  lost_update =
      lost_entry l p (dirty_in f) m (subst (λ (k : ℕ). Seated frames (set entries p (dirty_in k)) order) at (seated_dirty l.seated p (among l p m) i))
      (then (≅-before (r ∷ []) l.online_is) (≅-equal (append_assoc (keep (above_stamp marks) (rows_of g done)) opened (r ∷ []))))
      updated_dirty (λ z. updated_shows) kept_else (λ q n d. refl) updated_else

-- update with any row of the history's kind that is apart from each open one
update_right : {g : Ground} {done : List (List ℕ)} {h : Past} {s : Lent} (r : List ℕ) → page_of r < pages_of s → length r ≡ 19 → committed r ≡ false → open_row g h.live r ≡ true
    → every (λ (a : List ℕ). apart a r) (open_of h) ≡ true → count_of s < online_size_of s → Right g done h s → Right g done (updates h r) (updated s r).lent
unfolding updated updates
update_right {g} {done} {h} {s} r m long c o a room w =
    settle (reads_updated s r w.whole long (omega arith) (ranges w.durable).online_most (order_fits p m w) (below p m w) (rebuilt_length p m w))
    (past_update w.past r long c o a) w.durable
    (subst (λ (k : List (List ℕ)). After k (size_of s)) (sym (open_update h r c)) (subst (λ (n : ℕ). After (open_of h ++ (r ∷ [])) n) (sym size) after))
  where
    p : ℕ
    p = page_of r

    f : ℕ
    f = place_of s p

    size : size_of s ≡ g.size
    size = sized p m w

    pool : List ℕ
    pool = fetched_pool s p

    After : List (List ℕ) → ℕ → Type 0
    After opened n = LostRight g done opened h.live (frames_of s) s.durable.marks s.durable.stored (with_page n f pool (apply r (page_in n f pool))) (touched f (order_of s)) (lives_of s) (set (fetched_entries s p) p (dirty_in f)) (online_of s ++ (r ∷ []))

    after : After (open_of h ++ (r ∷ [])) g.size
    after =
        let e : length pool ≡ g.size * frames_of s = length_fetched_pool s p w.whole.areas (below p m w) (rebuilt_length p m w) ∙ ap (λ (n : ℕ). n * frames_of s) size in
        lost_update (fetched_right p m w).0 p f (there p m w) (fetched_right p m w).1 (fetched_right p m w).2 e r refl

-- refusal 6 did not come: the row is apart from each open one
apart_open : {g : Ground} {done : List (List ℕ)} {h : Past} {s : Lent} (r : List ℕ) → held_to_update (online_of s) r ≡ false → Right g done h s → every (λ (a : List ℕ). apart a r) (open_of h) ≡ true
apart_open {g} {done} {h} {s} r k t =
    let b : List ℕ → Bool = λ (a : List ℕ). not (apart a r) in
    let all : any b (keep (above_stamp s.durable.marks) (rows_of g done) ++ open_of h) ≡ false = sym (≅-any b t.lost.online_is) ∙ k in
    every_imp (λ (a : List ℕ). not (b a)) (λ (a : List ℕ). apart a r) (λ a y. sym (not-not (apart a r)) ∙ y) (open_of h)
    (none_each b (open_of h) (none_after b (keep (above_stamp s.durable.marks) (rows_of g done)) (open_of h) all))

-- update by an owner that is live, with arguments in range, where nobody else holds a byte and a row is free
module _ {g : Ground} {done : List (List ℕ)} {h : Past} {s : Lent} (x p offset w kind v : ℕ) (a : p < pages_of s) (b : 1 ≤ x) (c : x ≤ 32) (d : is_length w ≡ true) (e : offset + w ≤ size_of s) (f : v < 256 ^ w) (i : kind ≤ 1) (j : h.live x ≡ true) (k : held_to_update (online_of s) (row_of p offset w kind v x) ≡ false) (l : count_of s < online_size_of s) (t : Right g done h s) where
  abbrev row : List ℕ
  row = row_of p offset w kind v x

  its_page : page_of row ≡ p
  its_page = row_page p offset w kind v x (omega (arith, (ranges t.durable).pages_most))

  its_offset : offset_of row ≡ offset
  its_offset = row_offset p offset w kind v x (omega (arith, (ranges t.durable).size_most))

  its_length : length_of row ≡ w
  its_length = row_length p offset w kind v x

  its_owner : owner_of row ≡ x
  its_owner = row_owner p offset w kind v x

  -- the row is well formed, and its owner is live
  row_formed : well_formed g.size g.pages row ≡ true
  unfolding well_formed
  row_formed =
      let within : offset + w ≤ g.size = omega (arith, t.durable.size) in
      rw (its_page, its_offset, its_length, row_kind p offset w kind v x, row_value p offset w kind v x w (length_most w d) f, lt-ltb p g.pages (there p a t), d, le-leb (offset + w) g.size within, le-leb kind 1 i)
      (lt-ltb v (256 ^ w) f)

  row_open : open_row g h.live row ≡ true
  unfolding open_row
  row_open = rw (row_formed, its_owner, row_number p offset w kind v x, le-leb 1 x b, le-leb x 32 c) j

  -- update keeps what is right
  pub keeps_update : Right g done (updates h (row_of p offset w kind v x)) (updated s (row_of p offset w kind v x)).lent
  keeps_update =
      update_right row (rw its_page a) (length_row_of p offset w kind v x) (rw its_owner (ne_eqb x 0 (λ z. omega arith))) row_open
      (apart_open row k t) l t
