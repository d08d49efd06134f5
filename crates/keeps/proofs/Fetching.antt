-- Read and update on sound tables: a fetch seats the page, and the tables afterwards are sound.
use Prim.Native.Nat.{ℕ, ◌+◌, ◌-◌, ◌^◌, ◌≤◌, ◌<◌}
use native.Mathlib.Omega.{arith}
use mathlib.Core.Path.{◌≡◌, refl, sym, ap, ◌∙◌, subst}
use mathlib.Core.Bool.{Bool, true, false, cond, ◌||◌, or-true, or-false}
use mathlib.Core.List.{List, [], ◌∷◌, ◌++◌}
use lib.ListN.{length, get_or, set}
use lib.Seq.{get_or-set_same, get_or-set_other}
use lib.Dec.{eqb}
use borrow.Author.Tests.{eqb-true, eqb-false, eq-eqb, ne_eqb, lt-ltb, le-leb}
use Rattle.record.specs.Rows.{any}
use Rattle.record.specs.Record.{page_of, offset_of, length_of, owner_of, number_of, committed, is_length, well_formed, row_of, on_page}
use Rattle.record.proofs.Laws.{length_most}
use Rattle.order.specs.Order.{touched, frame_for}
use Rattle.record.proofs.Rows.{length_row_of}
use Rattle.rules.specs.Lent.{Lent, Durable, size_of, pages_of, frames_of, online_size_of, count_of, order_of, entry_of, entries_of, online_of, in_frame, frame_of, is_dirty, dirty_in}
use Rattle.rules.specs.Shape.{Sized}
use Rattle.rules.specs.Sound.{every, apart, sound}
use Rattle.rules.specs.Steps.{placed, place_of, rebuilt, fetched_entries, read_step, updated}
use Rattle.rules.specs.Calls.{held_to_update, is_number, is_live}
use Rattle.rules.proofs.Verdicts.{number_least, number_most}
use Rattle.record.proofs.Fields.{row_page, row_offset, row_length, row_kind, row_value, row_owner, row_number}
use Rattle.seats.proofs.Seated.{Seated}
use Rattle.seats.proofs.Places.{dirty_dirty, placed_in, placed_frame, placed_dirty, seated_below, seated_length, seated_frame, seated_touch, seated_place, seated_dirty}
use Rattle.readback.proofs.Seen.{lives_of, Whole}
use Rattle.readback.proofs.Lost.{entry_whole, live_whole, entries_length, length_fetched, length_rebuilt, reads_read, reads_updated}
use Rattle.keeps.proofs.Tests.{every_all, every_last, pairs_last, any_last, differ, differ_by, apart_each}
use Rattle.keeps.proofs.Clauses.{owned_right, in_log, stamp_below, HoldsIn, sound_gives_durable, sound_sized, sound_whole, sound_holds, sound_by, durable_again}

-- page p is in frame f by these entries, the latest used, and each page is as dirty as before
pub record Fetched (s : Lent) (p f : ℕ) (entries : List ℕ) : Type 0 where
  pub seated : Seated (frames_of s) entries (touched f (order_of s))
  pub placed_there : in_frame (get_or entries p 0) ≡ true
  pub frame : frame_of (get_or entries p 0) ≡ f
  pub as_dirty : (q : ℕ) → is_dirty (get_or entries q 0) ≡ is_dirty (get_or (entries_of s) q 0)

-- fetch of page p
module _ (s : Lent) (e : sound s ≡ true) (p : ℕ) (m : p < pages_of s) where
  sized : Sized s
  sized = sound_sized s e

  reads : Whole s
  reads = sound_whole s e

  holds : HoldsIn s
  holds = sound_holds s e

  entry : entry_of s p ≡ get_or (entries_of s) p 0
  entry = entry_whole s p reads m

  among : p < length (entries_of s)
  among = omega (arith, entries_length s reads.areas)

  rebuilt_length : length (rebuilt s p) ≡ size_of s
  rebuilt_length = length_rebuilt s p sized.stored m

  -- the frame that the page is in once it was fetched
  below : place_of s p < frames_of s
  below = go (in_frame (entry_of s p)) refl
    where
      go : (b : Bool) → in_frame (entry_of s p) ≡ b → cond b (frame_of (entry_of s p)) (frame_for (frames_of s) (order_of s)) < frames_of s
      go true i = rw entry (seated_below holds.seated p among (ap (λ (x : ℕ). in_frame x) (sym entry) ∙ i))
      go false i = seated_frame holds.seated sized.frames_least

  fetched : Fetched s p (place_of s p) (fetched_entries s p)
  unfolding fetched_entries
  fetched = go (in_frame (entry_of s p)) refl below
    where
      es : List ℕ
      es = entries_of s

      place : Bool → ℕ
      place b = cond b (frame_of (entry_of s p)) (frame_for (frames_of s) (order_of s))

      go : (b : Bool) → in_frame (entry_of s p) ≡ b → place b < frames_of s → Fetched s p (place b) (cond b es (placed (place b) p es))
      go true i k =
          let j : in_frame (get_or es p 0) ≡ true = ap (λ (x : ℕ). in_frame x) (sym entry) ∙ i in
          subst (λ (x : ℕ). Fetched s p (frame_of x) es) (sym entry)
          (record { seated = seated_touch holds.seated p among j; placed_there = j; frame = refl; as_dirty = λ q. refl })
      go false i k =
          let j : in_frame (get_or es p 0) ≡ false = ap (λ (x : ℕ). in_frame x) (sym entry) ∙ i in
          let f : ℕ = frame_for (frames_of s) (order_of s) in
          record {
            seated = seated_place holds.seated f p k among j;
            placed_there = placed_in f p es among;
            frame = placed_frame f p es among;
            as_dirty = λ q. placed_dirty f p q es among;
          }

  order_fits : length (touched (place_of s p) (order_of s)) ≤ frames_of s
  order_fits = seated_length fetched.seated

  -- a read leaves sound tables
  pub sound_read : sound (read_step s p).lent ≡ true
  unfolding read_step
  sound_read =
      let r = reads_read s p reads order_fits below rebuilt_length in
      sound_by (durable_again s.durable s.lost (read_step s p).lent.lost (sound_gives_durable s e) r.areas) r
      (record {
        seated = fetched.seated;
        live = holds.live;
        formed = holds.formed;
        owners = holds.owners;
        logged = holds.logged;
        above = holds.above;
        once = holds.once;
        dirty = λ q k. fetched.as_dirty q ∙ holds.dirty q k;
        apart_all = holds.apart_all;
      })

-- a row that is uncommitted, so neither in the log nor bound to a stamp
module _ (d : Durable) (r : List ℕ) (c : committed r ≡ false) where
  open_in_log : in_log d r ≡ true
  open_in_log = rw c

  open_above : stamp_below d r ≡ true
  open_above = rw c

-- S12 once a row of page p was appended and the page's entry became dirty in frame f
dirty_last : (online : List (List ℕ)) (es : List ℕ) (r : List ℕ) (p f q : ℕ) → page_of r ≡ p → p < length es → is_dirty (get_or es q 0) ≡ any (on_page q) online
    → is_dirty (get_or (set es p (dirty_in f)) q 0) ≡ any (on_page q) (online ++ (r ∷ []))
dirty_last online es r p f q on k h = go (eqb q p) refl
  where
    go : (b : Bool) → eqb q p ≡ b → is_dirty (get_or (set es p (dirty_in f)) q 0) ≡ any (on_page q) (online ++ (r ∷ []))
    go true z =
        let i : q ≡ p = eqb-true q p z in
        ap (λ (x : ℕ). is_dirty (get_or (set es p (dirty_in f)) x 0)) i ∙ ap (λ (x : ℕ). is_dirty x) (get_or-set_same es p (dirty_in f) 0 k) ∙ dirty_dirty f
        ∙ sym (any_last (on_page q) online r ∙ ap (λ (t : Bool). any (on_page q) online || t) (eq-eqb (page_of r) q (on ∙ sym i)) ∙ or-true (any (on_page q) online))
    go false z =
        let n = eqb-false q p z in
        ap (λ (x : ℕ). is_dirty x) (get_or-set_other es p q (dirty_in f) 0 n) ∙ h
        ∙ sym (any_last (on_page q) online r ∙ ap (λ (t : Bool). any (on_page q) online || t) (ne_eqb (page_of r) q (λ y. n (sym y ∙ on))) ∙ or-false (any (on_page q) online))

-- an update with any row of an open transaction's that is apart from each row there
module _ (s : Lent) (e : sound s ≡ true) (r : List ℕ) (m : page_of r < pages_of s) (long : length r ≡ 19) (free : count_of s < online_size_of s)
    (formed : well_formed (size_of s) (pages_of s) r ≡ true) (unset : committed r ≡ false) (none : number_of r ≡ 0) (its : owned_right s.durable (lives_of s) r ≡ true)
    (clear : every (λ (a : List ℕ). apart a r) (online_of s) ≡ true) where
  abbrev page : ℕ
  page = page_of r

  abbrev frame_there : ℕ
  frame_there = place_of s (page_of r)

  in_it : Fetched s page frame_there (fetched_entries s page)
  in_it = fetched s e page m

  pub sound_append : sound (updated s r).lent ≡ true
  unfolding updated
  sound_append =
      let h : HoldsIn s = sound_holds s e in
      let w = reads_updated s r (sound_whole s e) long (omega arith) (sound_sized s e).online_size (order_fits s e page m) (below s e page m) (rebuilt_length s e page m) in
      let k : page < length (fetched_entries s page) = omega (arith, length_fetched s page (sound_whole s e).areas) in
      sound_by (durable_again s.durable s.lost (updated s r).lent.lost (sound_gives_durable s e) w.areas) w
      (record {
        seated = subst (λ (f : ℕ). Seated (frames_of s) (set (fetched_entries s page) page (dirty_in f)) (touched frame_there (order_of s))) in_it.frame (seated_dirty in_it.seated page k in_it.placed_there);
        live = h.live;
        formed = every_last (well_formed (size_of s) (pages_of s)) (online_of s) r h.formed formed;
        owners = every_last (owned_right s.durable (lives_of s)) (online_of s) r h.owners its;
        logged = every_last (in_log s.durable) (online_of s) r h.logged (open_in_log s.durable r unset);
        above = every_last (stamp_below s.durable) (online_of s) r h.above (open_above s.durable r unset);
        once = pairs_last differ (online_of s) r h.once (every_all (λ (a : List ℕ). differ a r) (λ a. differ_by a r (λ z. z ∙ none)) (online_of s));
        dirty = λ q i. dirty_last (online_of s) (fetched_entries s page) r page frame_there q refl k (in_it.as_dirty q ∙ h.dirty q i);
        apart_all = pairs_last apart (online_of s) r h.apart_all clear;
      })

-- an update by an owner that is live, with arguments in range, where nobody else holds a byte and a row is free
module _ (s : Lent) (x p offset w kind v : ℕ) (e : sound s ≡ true) (a : p < pages_of s) (b : is_number x ≡ true) (d : is_length w ≡ true) (f : offset + w ≤ size_of s) (g : v < 256 ^ w) (i : kind ≤ 1)
    (j : is_live s.lost.tables x ≡ true) (k : held_to_update (online_of s) (row_of p offset w kind v x) ≡ false) (l : count_of s < online_size_of s) where
  abbrev row : List ℕ
  row = row_of p offset w kind v x

  its_page : page_of row ≡ p
  its_page = row_page p offset w kind v x (omega (arith, (sound_sized s e).pages))

  its_offset : offset_of row ≡ offset
  its_offset = row_offset p offset w kind v x (omega (arith, (sound_sized s e).size))

  its_length : length_of row ≡ w
  its_length = row_length p offset w kind v x

  its_owner : owner_of row ≡ x
  its_owner = row_owner p offset w kind v x

  row_formed : well_formed (size_of s) (pages_of s) row ≡ true
  unfolding well_formed
  row_formed =
      rw (its_page, its_offset, its_length, row_kind p offset w kind v x, row_value p offset w kind v x w (length_most w d) g, lt-ltb p (pages_of s) a, d, le-leb (offset + w) (size_of s) f, le-leb kind 1 i)
      (lt-ltb v (256 ^ w) g)

  row_unset : committed row ≡ false
  row_unset = rw its_owner (ne_eqb x 0 (λ z. omega (arith, number_least x b)))

  row_owned : owned_right s.durable (lives_of s) row ≡ true
  row_owned =
      let n : number_of row ≡ 0 = row_number p offset w kind v x in
      let t : eqb (get_or (lives_of s) (x - 1) 0) 1 ≡ true = ap (λ (y : ℕ). eqb y 1) (sym (live_whole s x (sound_whole s e) (number_least x b) (number_most x b))) ∙ j in
      rw (row_unset, its_owner, n, le-leb x 32 (number_most x b)) t

  pub sound_update : sound (updated s (row_of p offset w kind v x)).lent ≡ true
  sound_update = sound_append s e row (rw its_page a) (length_row_of p offset w kind v x) l row_formed row_unset (row_number p offset w kind v x) row_owned (apart_each (online_of s) row k)
