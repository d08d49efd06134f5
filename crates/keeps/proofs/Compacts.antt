-- Compact on sound tables leaves sound tables: the page's committed rows are gone, and its stamp is their greatest number.
use Prim.Native.Nat.{ℕ, ◌+◌, ◌*◌, ◌-◌, ◌≤◌, ◌<◌}
use native.Mathlib.Omega.{arith}
use mathlib.Core.Path.{◌≡◌, refl, sym, ap, ◌∙◌, subst}
use mathlib.Core.Logic.{◌⊎◌, inl, inr}
use mathlib.Core.Bool.{Bool, true, false, cond, not, ◌&&◌, ◌||◌, false≢true}
use mathlib.Core.List.{List, [], ◌∷◌}
use lib.ListN.{length, get_or, drop, set}
use lib.Seq.{get_or-set_same, get_or-set_other}
use lib.Dec.{eqb, leb, ltb}
use borrow.Author.Tests.{eqb-true, eqb-false, eq-eqb, ne_eqb, le-leb}
use Rattle.record.specs.Rows.{row_at, rows, keep, cons_if, any}
use Rattle.record.specs.Record.{page_of, number_of, committed, applied, on_page, committed_on, body_of, greatest, well_formed}
use Rattle.record.proofs.Changes.{length_applied}
use Rattle.rules.specs.Lent.{Lent, size_of, pages_of, frames_of, last_of, closed_of, logged_of, first_number_of, stamp_of, dirty_of, order_of, entry_of, entries_of, online_of, in_frame, frame_of, is_dirty, clean_in, page_in}
use Rattle.rules.specs.Sound.{every, zeros, apart, same, sound}
use Rattle.rules.specs.Steps.{freed_of, foldable, from_frame, compacted_page, compacted_entry, compacted_order, unfolded, compacted}
use Rattle.rules.proofs.Every.{every_keep, every_kept_where, keep_within}
use Rattle.rules.proofs.Extremes.{number_at_most, greatest_most}
use Rattle.rules.proofs.Every.{every_imp}
use Rattle.seats.proofs.Seated.{Seated}
use Rattle.seats.proofs.Places.{clean_not_dirty, seated_below, seated_clean, seated_leave}
use Rattle.seats.proofs.Loops.{any_kept, any_by}
use Rattle.readback.proofs.Seen.{lives_of, Whole}
use Rattle.readback.proofs.Pages.{page_length, pages_length}
use Rattle.readback.proofs.Lost.{entry_whole, entries_length, reads_compacted}
use Rattle.readback.proofs.Marks.{restamped_length, restamped_front, restamped_same, restamped_other, restamped_dirty}
use Rattle.keeps.proofs.Tests.{pairs_keep, differ}
use Rattle.keeps.proofs.Clauses.{owned_right, in_log, stamp_below, HoldsIn, sound_gives_durable, sound_sized, sound_whole, sound_holds, sound_by}
use Rattle.keeps.proofs.Durables.{DurableHolds, durable_holds, holds_durable}
use Rattle.keeps.proofs.Commits.{owned_number, owned_later, if_committed}

-- a page's committed records are gone, the others stay
abbrev pub stays : ℕ → List ℕ → Bool
stays p r = not (committed_on p r)

-- a page's records are its committed ones and those that stay
pub stays_count : (p : ℕ) (l : List (List ℕ)) → length (keep (committed_on p) l) + length (keep (on_page p) (keep (stays p) l)) ≡ length (keep (on_page p) l)
unfolding keep
stays_count p [] = refl
stays_count p (r ∷ l) = pick (on_page p r) (committed r) refl (stays_count p l)
  where
    pick : (s t : Bool) → on_page p r ≡ s → length (keep (committed_on p) l) + length (keep (on_page p) (keep (stays p) l)) ≡ length (keep (on_page p) l)
        → length (cons_if (s && t) r (keep (committed_on p) l)) + length (keep (on_page p) (cons_if (not (s && t)) r (keep (stays p) l))) ≡ length (cons_if s r (keep (on_page p) l))
    pick true true e h = omega arith
    pick true false e h = rw e (omega arith)
    pick false t e h = rw e h

-- where all of a page's records are committed none of the page stays; and where not, one does
pub stays_page : (p : ℕ) (l : List (List ℕ)) → any (on_page p) (keep (stays p) l) ≡ not (eqb (length (keep (committed_on p) l)) (length (keep (on_page p) l)))
stays_page p l = any_kept (on_page p) (keep (stays p) l) ∙ ap not (go (eqb (length (keep (committed_on p) l)) (length (keep (on_page p) l))) refl)
  where
    left : ℕ
    left = length (keep (on_page p) (keep (stays p) l))

    go : (t : Bool) → eqb (length (keep (committed_on p) l)) (length (keep (on_page p) l)) ≡ t → eqb left 0 ≡ t
    go true e = eq-eqb left 0 (omega (arith, eqb-true (length (keep (committed_on p) l)) (length (keep (on_page p) l)) e, stays_count p l))
    go false e = ne_eqb left 0 (λ z. eqb-false (length (keep (committed_on p) l)) (length (keep (on_page p) l)) e (omega (arith, stays_count p l)))

-- the records of another page all stay
pub stays_other : (p q : ℕ) → (q ≡ p → ⊥) → (l : List (List ℕ)) → keep (on_page q) (keep (stays p) l) ≡ keep (on_page q) l
stays_other p q d l = keep_within (on_page q) (stays p) in_place l
  where
    in_place : (r : List ℕ) → on_page q r ≡ true → stays p r ≡ true
    in_place r e =
        let n : on_page p r ≡ false = ne_eqb (page_of r) p (λ z. d (sym (eqb-true (page_of r) q e) ∙ z)) in
        rw n

-- a committed record that stays is another page's
stays_else : (p : ℕ) (r : List ℕ) → stays p r ≡ true → committed r ≡ true → page_of r ≡ p → ⊥
stays_else p r h c e =
    let z : stays p r ≡ false = ap (λ (t : Bool). not (t && committed r)) (eq-eqb (page_of r) p e) ∙ ap not c in
    false≢true (sym z ∙ h)

bit : (t : Bool) → is_dirty (cond t 0 1) ≡ not t
bit true = refl
bit false = refl

low_bit : (t : Bool) → cond t 0 1 ≤ 1
low_bit true = omega arith
low_bit false = omega arith

module _ (s : Lent) (p : ℕ) (e : sound s ≡ true) (m : p < pages_of s) (last : last_of s ≤ 4294967295) where
  abbrev after : Lent
  after = (compacted s p).lent

  durable : DurableHolds s
  durable = durable_holds s (sound_gives_durable s e)

  reads : Whole s
  reads = sound_whole s e

  holds : HoldsIn s
  holds = sound_holds s e

  entry : entry_of s p ≡ get_or (entries_of s) p 0
  entry = entry_whole s p reads m

  among : p < length (entries_of s)
  among = omega (arith, entries_length s reads.areas)

  abbrev stamp : ℕ
  stamp = greatest 0 (foldable s p)

  stamp_most : stamp ≤ last_of s
  stamp_most =
      greatest_most (last_of s) (foldable s p)
      (every_keep (committed_on p) (number_at_most (last_of s)) (online_of s)
      (every_imp (owned_right s.durable (lives_of s)) (number_at_most (last_of s)) (λ r h. le-leb (number_of r) (last_of s) (owned_number s.durable (lives_of s) r h)) (online_of s) holds.owners))

  fits : stamp ≤ 4294967295
  fits = omega (arith, stamp_most)

  last_left : last_of after ≡ last_of s
  unfolding compacted
  last_left = restamped_front (pages_of s) s.durable.marks durable.marks p stamp m fits 0 (omega arith)

  closed_left : closed_of after ≡ closed_of s
  unfolding compacted
  closed_left = restamped_front (pages_of s) s.durable.marks durable.marks p stamp m fits 4 (omega arith)

  logged_left : logged_of after ≡ logged_of s
  unfolding compacted
  logged_left = restamped_front (pages_of s) s.durable.marks durable.marks p stamp m fits 8 (omega arith)

  first_left : first_number_of after ≡ first_number_of s
  first_left = omega (arith, last_left, logged_left)

  stamp_here : stamp_of after p ≡ stamp
  unfolding compacted
  stamp_here = restamped_same (pages_of s) s.durable.marks durable.marks p stamp m fits

  stamp_else : (q : ℕ) → (q ≡ p → ⊥) → stamp_of after q ≡ stamp_of s q
  unfolding compacted
  stamp_else = restamped_other (pages_of s) s.durable.marks durable.marks p stamp m fits

  dirty_left : (q : ℕ) → dirty_of after q ≡ dirty_of s q
  unfolding compacted
  dirty_left = restamped_dirty (pages_of s) s.durable.marks durable.marks p stamp m fits

  page_long : length (compacted_page s p) ≡ size_of s
  unfolding compacted_page from_frame
  page_long = go (eqb (length (foldable s p)) (length (keep (on_page p) (online_of s)))) (in_frame (entry_of s p)) refl
    where
      go : (w f : Bool) → in_frame (entry_of s p) ≡ f → length (cond (w && f) (page_in (size_of s) (frame_of (entry_of s p)) s.lost.pool) (applied (foldable s p) (page_in (size_of s) p s.durable.stored))) ≡ size_of s
      go true true i =
          let j : in_frame (get_or (entries_of s) p 0) ≡ true = ap (λ (x : ℕ). in_frame x) (sym entry) ∙ i in
          let k : frame_of (entry_of s p) < frames_of s = rw entry (seated_below holds.seated p among j) in
          page_length (size_of s) (frames_of s) s.lost.pool reads.areas.pool (frame_of (entry_of s p)) k
      go true false i = length_applied (foldable s p) (page_in (size_of s) p s.durable.stored) ∙ page_length (size_of s) (pages_of s) s.durable.stored durable.stored p m
      go false f i = length_applied (foldable s p) (page_in (size_of s) p s.durable.stored) ∙ page_length (size_of s) (pages_of s) s.durable.stored durable.stored p m

  compact_durable : DurableHolds after
  unfolding compacted
  compact_durable =
      record {
        fixed = durable.fixed;
        range = durable.range;
        marks = restamped_length (pages_of s) s.durable.marks durable.marks p stamp m fits ∙ durable.marks;
        log = durable.log;
        stored = pages_length (size_of s) (pages_of s) s.durable.stored durable.stored p m (compacted_page s p) page_long ∙ durable.stored;
        logged = omega (arith, logged_left, durable.logged);
        logged_last = omega (arith, logged_left, last_left, durable.logged_last);
        first = omega (arith, first_left, closed_left, durable.first);
        closed_last = omega (arith, closed_left, last_left, durable.closed_last);
        stamps = λ q k. stamps_most q k (eqb q p) refl;
        dirty = λ q k. pick q (durable.dirty q k);
        formed = ap (λ (n : ℕ). every (well_formed (size_of s) (pages_of s)) (rows 14 n s.durable.log 0)) logged_left ∙ durable.formed;
        clear = ap (λ (n : ℕ). zeros (drop (n * 14) s.durable.log)) logged_left ∙ durable.clear;
      }
    where
      stamps_most : (q : ℕ) → q < pages_of s → (b : Bool) → eqb q p ≡ b → stamp_of (compacted s p).lent q ≤ last_of (compacted s p).lent
      stamps_most q k true z = omega (arith, ap (λ (i : ℕ). stamp_of (compacted s p).lent i) (eqb-true q p z), stamp_here, stamp_most, last_left)
      stamps_most q k false z = omega (arith, stamp_else q (eqb-false q p z), durable.stamps q k, last_left)

      pick : (q : ℕ) → (dirty_of s q ≡ 0) ⊎ ((first_number_of s ≤ dirty_of s q) × (dirty_of s q ≤ closed_of s)) → (dirty_of (compacted s p).lent q ≡ 0) ⊎ ((first_number_of (compacted s p).lent ≤ dirty_of (compacted s p).lent q) × (dirty_of (compacted s p).lent q ≤ closed_of (compacted s p).lent))
      pick q (inl z) = inl (dirty_left q ∙ z)
      pick q (inr z) = inr (omega (arith, first_left, dirty_left q, z.0), omega (arith, closed_left, dirty_left q, z.1))

  abbrev all : Bool
  all = eqb (length (foldable s p)) (length (keep (on_page p) (online_of s)))

  -- the entry that the page gets, and the use order: S4 to S6 and S12 of them
  seated_after : Seated (frames_of s) (set (entries_of s) p (compacted_entry s p)) (compacted_order s p)
  unfolding compacted_entry compacted_order from_frame
  seated_after =
      subst (λ (x : ℕ). Seated (frames_of s) (set (entries_of s) p (cond (all && in_frame x) (clean_in (frame_of x)) (cond all 0 1))) (cond (all && in_frame x) (order_of s) (freed_of x (order_of s)))) (sym entry)
      (go all (in_frame (get_or (entries_of s) p 0)) refl)
    where
      x : ℕ
      x = get_or (entries_of s) p 0

      go : (w f : Bool) → in_frame x ≡ f → Seated (frames_of s) (set (entries_of s) p (cond (w && f) (clean_in (frame_of x)) (cond w 0 1))) (cond (w && f) (order_of s) (freed_of x (order_of s)))
      go true true i = seated_clean holds.seated p among i
      go true false i = seated_leave holds.seated p 0 among (omega arith)
      go false f i = seated_leave holds.seated p 1 among (omega arith)

  entry_dirty : is_dirty (compacted_entry s p) ≡ any (on_page p) (unfolded s p)
  unfolding compacted_entry from_frame
  entry_dirty = go all (in_frame (entry_of s p)) refl ∙ sym (stays_page p (online_of s))
    where
      go : (w f : Bool) → all ≡ w → is_dirty (cond (w && f) (clean_in (frame_of (entry_of s p))) (cond w 0 1)) ≡ not all
      go true true z = clean_not_dirty (frame_of (entry_of s p)) ∙ ap not (sym z)
      go true false z = bit true ∙ ap not (sym z)
      go false f z = bit false ∙ ap not (sym z)

  dirty_after : (q : ℕ) → q < pages_of s → is_dirty (get_or (set (entries_of s) p (compacted_entry s p)) q 0) ≡ any (on_page q) (unfolded s p)
  dirty_after q k = go (eqb q p) refl
    where
      go : (b : Bool) → eqb q p ≡ b → is_dirty (get_or (set (entries_of s) p (compacted_entry s p)) q 0) ≡ any (on_page q) (unfolded s p)
      go true z =
          let i : q ≡ p = eqb-true q p z in
          ap (λ (n : ℕ). is_dirty (get_or (set (entries_of s) p (compacted_entry s p)) n 0)) i ∙ ap (λ (n : ℕ). is_dirty n) (get_or-set_same (entries_of s) p (compacted_entry s p) 0 among)
          ∙ entry_dirty ∙ ap (λ (n : ℕ). any (on_page n) (unfolded s p)) (sym i)
      go false z =
          let n = eqb-false q p z in
          ap (λ (x : ℕ). is_dirty x) (get_or-set_other (entries_of s) p q (compacted_entry s p) 0 n) ∙ holds.dirty q k
          ∙ any_by (on_page q) (online_of s) (unfolded s p) (sym (stays_other p q n (online_of s)))

  -- S10 and S11 of the rows that stay
  logged_still : (r : List ℕ) → in_log s.durable r ≡ true → in_log after.durable r ≡ true
  unfolding compacted
  logged_still r h = ap (λ (n : ℕ). not (committed r) || (leb n (number_of r) && same (body_of r) (row_at 14 s.durable.log (number_of r - n)))) first_left ∙ h

  above_still : (r : List ℕ) → stays p r ≡ true → stamp_below s.durable r ≡ true → stamp_below after.durable r ≡ true
  above_still r t h =
      if_committed (committed r) (ltb (stamp_of s (page_of r)) (number_of r)) (ltb (stamp_of after (page_of r)) (number_of r))
      (λ c k. ap (λ (n : ℕ). ltb n (number_of r)) (stamp_else (page_of r) (stays_else p r t c)) ∙ k) h

  -- compact
  pub sound_compact : sound (compacted s p).lent ≡ true
  unfolding compacted
  sound_compact =
      let r = reads_compacted s p reads (sound_sized s e).online_size m in
      sound_by (holds_durable (compacted s p).lent compact_durable r.areas) r
      (record {
        seated = seated_after;
        live = holds.live;
        formed = every_keep (stays p) (well_formed (size_of s) (pages_of s)) (online_of s) holds.formed;
        owners =
            every_keep (stays p) (owned_right after.durable (lives_of s)) (online_of s)
            (every_imp (owned_right s.durable (lives_of s)) (owned_right after.durable (lives_of s)) (λ q. owned_later s.durable after.durable (lives_of s) q (omega (arith, last_left))) (online_of s) holds.owners);
        logged = every_keep (stays p) (in_log after.durable) (online_of s) (every_imp (in_log s.durable) (in_log after.durable) logged_still (online_of s) holds.logged);
        above = every_kept_where (stays p) (stamp_below s.durable) (stamp_below after.durable) above_still (online_of s) holds.above;
        once = pairs_keep (stays p) differ (online_of s) holds.once;
        dirty = dirty_after;
        apart_all = pairs_keep (stays p) apart (online_of s) holds.apart_all;
      })

  pub compact_last : last_of (compacted s p).lent ≡ last_of s
  compact_last = last_left
