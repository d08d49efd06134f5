-- Close on sound tables leaves sound tables: dirty numbers and log by the committed rows that are online. And a checkpoint, which is compacts and a close.
use Prim.Native.Nat.{ℕ, zero, suc, ◌+◌, ◌-◌, ◌≤◌, ◌<◌}
use native.Mathlib.Omega.{arith}
use mathlib.Core.Path.{◌≡◌, refl, sym, ap, ◌∙◌}
use mathlib.Core.Logic.{◌⊎◌, inl, inr}
use mathlib.Core.Bool.{Bool, true, false, cond, not, ◌&&◌, ◌||◌}
use mathlib.Core.List.{List, [], ◌∷◌}
use lib.ListN.{get_or, drop}
use lib.Seq.{get_or-drop}
use lib.Dec.{eqb, leb, ltb}
use borrow.Author.Tests.{eqb-true, eqb-false, leb-true, le-leb, ltb-true}
use Rattle.word.specs.Word.{num}
use Rattle.word.proofs.Tests.{and_both, and_in}
use Rattle.record.specs.Rows.{row_at, keep}
use Rattle.record.specs.Record.{page_of, owner_of, number_of, committed, committed_on, on_page, body_of, smallest, well_formed}
use Rattle.rules.specs.Lent.{Lent, Durable, size_of, pages_of, last_of, closed_of, logged_of, first_number_of, stamp_of, dirty_of, log_of, online_of}
use Rattle.rules.specs.Sound.{every, between, same, sound}
use Rattle.rules.specs.Steps.{left, foldable, due, dropped_by, compacted, compact_step, closed, after_pages, checkpointed}
use Rattle.rules.proofs.Every.{meet, every_keep, every_kept_where}
use Rattle.rules.proofs.Extremes.{has_number, number_at_most, smallest_found, smallest_nothing}
use Rattle.rules.proofs.Needed.{dropped_below}
use Rattle.rules.proofs.Every.{every_imp}
use Rattle.rules.proofs.Clauses.{formed_page}
use Rattle.redo.proofs.Reader.{every_both}
use Rattle.readback.proofs.Seen.{only, lives_of, Whole}
use Rattle.readback.proofs.Lost.{reads_closed}
use Rattle.readback.proofs.Marks.{marks_close, last_close, closed_close, logged_close, stamp_close, dirty_close}
use Rattle.readback.proofs.Log.{log_close, log_zero_close, log_length_close}
use Rattle.keeps.proofs.Tests.{every_drop, picked_every}
use Rattle.keeps.proofs.Clauses.{owned_right, in_log, stamp_below, HoldsIn, sound_gives_durable, sound_whole, sound_holds, sound_by}
use Rattle.keeps.proofs.Durables.{DurableHolds, durable_holds, holds_durable}
use Rattle.keeps.proofs.Numbering.{rows_at}
use Rattle.keeps.proofs.Commits.{owned_number, owned_later, if_committed}
use Rattle.keeps.proofs.Compacts.{sound_compact, compact_last}

-- a committed row has a number
owned_has : (d : Durable) (lives r : List ℕ) → committed r ≡ true → owned_right d lives r ≡ true → has_number r ≡ true
owned_has d lives r c h =
    let k : between 1 (number_of r) (last_of (only d)) ≡ true =
    sym (ap (λ (b : Bool). cond b (between 1 (number_of r) (last_of (only d))) (leb (owner_of r) 32 && eqb (number_of r) 0 && eqb (get_or lives (owner_of r - 1) 0) 1)) c) ∙ h in
    (and_both (leb 1 (number_of r)) (leb (number_of r) (last_of (only d))) k).0

-- the smallest number of rows numbered from `first` to `last`
pub least_between : (first last : ℕ) → 1 ≤ first → (l : List (List ℕ)) → every (λ (r : List ℕ). between first (number_of r) last) l ≡ true
    → (smallest 0 l ≡ 0) ⊎ ((first ≤ smallest 0 l) × (smallest 0 l ≤ last))
least_between first last low [] h = inl smallest_nothing
least_between first last low (r ∷ l) h =
    inr (meet (λ (q : List ℕ). between first (number_of q) last) (λ (q : List ℕ). eqb (number_of q) (smallest 0 (r ∷ l))) (r ∷ l) h (smallest_found (r ∷ l) numbers (omega arith)) tell)
  where
    numbers : every has_number (r ∷ l) ≡ true
    numbers = every_imp (λ (q : List ℕ). between first (number_of q) last) has_number (λ q e. le-leb 1 (number_of q) (omega (arith, leb-true first (number_of q) (and_both (leb first (number_of q)) (leb (number_of q) last) e).0))) (r ∷ l) h

    tell : (q : List ℕ) → between first (number_of q) last ≡ true → eqb (number_of q) (smallest 0 (r ∷ l)) ≡ true → (first ≤ smallest 0 (r ∷ l)) × (smallest 0 (r ∷ l) ≤ last)
    tell q e k =
        let f : (leb first (number_of q) ≡ true) × (leb (number_of q) last ≡ true) = and_both (leb first (number_of q)) (leb (number_of q) last) e in
        let n : number_of q ≡ smallest 0 (r ∷ l) = eqb-true (number_of q) (smallest 0 (r ∷ l)) k in
        (omega (arith, leb-true first (number_of q) f.0), omega (arith, leb-true (number_of q) last f.1))

module _ (s : Lent) (e : sound s ≡ true) (last : last_of s ≤ 4294967295) where
  abbrev after : Lent
  after = (closed s).lent

  durable : DurableHolds s
  durable = durable_holds s (sound_gives_durable s e)

  reads : Whole s
  reads = sound_whole s e

  holds : HoldsIn s
  holds = sound_holds s e

  logs : logged_of s ≤ 4294967295
  logs = omega (arith, durable.logged_last)

  -- what is dropped from the log is no more than it has, and no row that is online
  still : List (List ℕ)
  still = keep committed (online_of s)

  rows_numbered : every has_number (keep committed (online_of s)) ≡ true
  rows_numbered = every_kept_where committed (owned_right s.durable (lives_of s)) has_number (λ r c h. owned_has s.durable (lives_of s) r c h) (online_of s) holds.owners

  rows_from : every (λ (r : List ℕ). leb (first_number_of s) (number_of r)) (keep committed (online_of s)) ≡ true
  rows_from = every_kept_where committed (in_log s.durable) (λ (r : List ℕ). leb (first_number_of s) (number_of r)) in_it (online_of s) holds.logged
    where
      in_it : (r : List ℕ) → committed r ≡ true → in_log s.durable r ≡ true → leb (first_number_of s) (number_of r) ≡ true
      in_it r c h =
          let k : (leb (first_number_of s) (number_of r) && same (body_of r) (row_at 14 s.durable.log (number_of r - first_number_of s))) ≡ true =
          sym (ap (λ (b : Bool). not b || (leb (first_number_of s) (number_of r) && same (body_of r) (row_at 14 s.durable.log (number_of r - first_number_of s)))) c) ∙ h in
          (and_both (leb (first_number_of s) (number_of r)) (same (body_of r) (row_at 14 s.durable.log (number_of r - first_number_of s))) k).0

  kept_from : every (λ (r : List ℕ). leb (first_number_of s + dropped_by s) (number_of r)) (keep committed (online_of s)) ≡ true
  kept_from = dropped_below s rows_numbered rows_from

  rows_known : every (number_at_most (last_of s)) (online_of s) ≡ true
  rows_known = every_imp (owned_right s.durable (lives_of s)) (number_at_most (last_of s)) (λ r h. le-leb (number_of r) (last_of s) (owned_number s.durable (lives_of s) r h)) (online_of s) holds.owners

  rows_fit : every (number_at_most 4294967295) (online_of s) ≡ true
  rows_fit = every_imp (number_at_most (last_of s)) (number_at_most 4294967295) (λ r h. le-leb (number_of r) 4294967295 (omega (arith, leb-true (number_of r) (last_of s) h))) (online_of s) rows_known

  few_dropped : dropped_by s ≤ logged_of s
  unfolding dropped_by
  few_dropped = go (eqb (smallest 0 (keep committed (online_of s))) 0) refl
    where
      least : ℕ
      least = smallest 0 (keep committed (online_of s))

      first_least : 1 ≤ first_number_of s
      first_least = omega arith

      within : (smallest 0 (keep committed (online_of s)) ≡ 0) ⊎ ((first_number_of s ≤ smallest 0 (keep committed (online_of s))) × (smallest 0 (keep committed (online_of s)) ≤ last_of s))
      within =
          least_between (first_number_of s) (last_of s) first_least (keep committed (online_of s))
          (every_both (λ (r : List ℕ). leb (first_number_of s) (number_of r)) (number_at_most (last_of s)) (λ (r : List ℕ). between (first_number_of s) (number_of r) (last_of s))
          (λ r a b. and_in (leb (first_number_of s) (number_of r)) (leb (number_of r) (last_of s)) a b) (keep committed (online_of s)) rows_from (every_keep committed (number_at_most (last_of s)) (online_of s) rows_known))

      go : (b : Bool) → eqb (smallest 0 (keep committed (online_of s))) 0 ≡ b → cond b (logged_of s) (smallest 0 (keep committed (online_of s)) - first_number_of s) ≤ logged_of s
      go true z = omega arith
      go false z = pick within
        where
          pick : (smallest 0 (keep committed (online_of s)) ≡ 0) ⊎ ((first_number_of s ≤ smallest 0 (keep committed (online_of s))) × (smallest 0 (keep committed (online_of s)) ≤ last_of s)) → smallest 0 (keep committed (online_of s)) - first_number_of s ≤ logged_of s
          pick (inl y) = absurd (eqb-false (smallest 0 (keep committed (online_of s))) 0 z y)
          pick (inr y) = omega (arith, y.1)

  last_left : last_of after ≡ last_of s
  last_left = last_close s durable.marks last logs

  closed_now : closed_of after ≡ last_of s
  closed_now = closed_close s durable.marks last logs

  logged_now : logged_of after ≡ logged_of s - dropped_by s
  logged_now = logged_close s durable.marks last logs

  first_now : first_number_of after ≡ first_number_of s + dropped_by s
  first_now = omega (arith, last_left, logged_now, few_dropped, durable.logged_last)

  stamp_left : (p : ℕ) → p < pages_of s → stamp_of after p ≡ stamp_of s p
  stamp_left = stamp_close s durable.marks last logs

  dirty_now : (p : ℕ) → p < pages_of s → dirty_of after p ≡ smallest 0 (foldable s p)
  dirty_now p m = dirty_close s durable.marks last logs p m rows_fit

  log_read : log_of after ≡ drop (dropped_by s) (log_of s)
  log_read = log_close s durable.marks durable.log durable.logged last logs

  -- a page's dirty number is none, or one of the new log's, up to the new K
  dirt : (p : ℕ) → (smallest 0 (foldable s p) ≡ 0) ⊎ ((first_number_of s + dropped_by s ≤ smallest 0 (foldable s p)) × (smallest 0 (foldable s p) ≤ last_of s))
  dirt p =
      least_between (first_number_of s + dropped_by s) (last_of s) (omega arith) (foldable s p)
      (every_kept_where (committed_on p) (λ (r : List ℕ). not (committed r) || between (first_number_of s + dropped_by s) (number_of r) (last_of s)) (λ (r : List ℕ). between (first_number_of s + dropped_by s) (number_of r) (last_of s))
      (λ r c h. use_it (committed r) (between (first_number_of s + dropped_by s) (number_of r) (last_of s)) (and_both (on_page p r) (committed r) c).1 h) (online_of s)
      (picked_every committed (λ (r : List ℕ). between (first_number_of s + dropped_by s) (number_of r) (last_of s)) (online_of s)
      (every_both (λ (r : List ℕ). leb (first_number_of s + dropped_by s) (number_of r)) (number_at_most (last_of s)) (λ (r : List ℕ). between (first_number_of s + dropped_by s) (number_of r) (last_of s))
      (λ r a b. and_in (leb (first_number_of s + dropped_by s) (number_of r)) (leb (number_of r) (last_of s)) a b) (keep committed (online_of s)) kept_from (every_keep committed (number_at_most (last_of s)) (online_of s) rows_known))))
    where
      use_it : (b t : Bool) → b ≡ true → (not b || t) ≡ true → t ≡ true
      use_it b t h k = sym (ap (λ (z : Bool). not z || t) h) ∙ k

  close_durable : DurableHolds after
  unfolding closed
  close_durable =
      record {
        fixed = durable.fixed;
        range = durable.range;
        marks = marks_close s durable.marks last logs ∙ durable.marks;
        log = log_length_close s durable.marks durable.log durable.logged last logs ∙ durable.log;
        stored = durable.stored;
        logged = omega (arith, logged_now, durable.logged);
        logged_last = omega (arith, logged_now, last_left, durable.logged_last);
        first = omega (arith, first_now, closed_now, few_dropped, durable.logged_last);
        closed_last = omega (arith, closed_now, last_left);
        stamps = λ p m. omega (arith, stamp_left p m, last_left, durable.stamps p m);
        dirty = λ p m. pick p m (dirt p);
        formed =
            ap (λ (l : List (List ℕ)). every (well_formed (size_of s) (pages_of s)) l) log_read
            ∙ every_drop (well_formed (size_of s) (pages_of s)) (dropped_by s) (log_of s) durable.formed;
        clear = log_zero_close s durable.marks durable.log durable.logged last logs;
      }
    where
      pick : (p : ℕ) → p < pages_of s → (smallest 0 (foldable s p) ≡ 0) ⊎ ((first_number_of s + dropped_by s ≤ smallest 0 (foldable s p)) × (smallest 0 (foldable s p) ≤ last_of s))
          → (dirty_of (closed s).lent p ≡ 0) ⊎ ((first_number_of (closed s).lent ≤ dirty_of (closed s).lent p) × (dirty_of (closed s).lent p ≤ closed_of (closed s).lent))
      pick p m (inl z) = inl (dirty_now p m ∙ z)
      pick p m (inr z) = inr (omega (arith, first_now, dirty_now p m, z.0), omega (arith, closed_now, dirty_now p m, z.1))

  -- S10: what is online is in the log still, at its new place
  log_now : (j : ℕ) → j < logged_of s - dropped_by s → row_at 14 after.durable.log j ≡ row_at 14 s.durable.log (dropped_by s + j)
  log_now j m =
      let z : j ≡ 0 + j = omega arith in
      let y : dropped_by s + j ≡ 0 + (dropped_by s + j) = omega arith in
      ap (λ (i : ℕ). row_at 14 after.durable.log i) z
      ∙ sym (rows_at 14 (logged_of after) after.durable.log 0 j (omega (arith, logged_now)))
      ∙ ap (λ (l : List (List ℕ)). get_or l j []) log_read
      ∙ get_or-drop (dropped_by s) (log_of s) j []
      ∙ rows_at 14 (logged_of s) s.durable.log 0 (dropped_by s + j) (omega arith)
      ∙ ap (λ (i : ℕ). row_at 14 s.durable.log i) (sym y)

  logged_still : (r : List ℕ) → (not (committed r) || between (first_number_of s + dropped_by s) (number_of r) (last_of s)) ≡ true → in_log s.durable r ≡ true → in_log after.durable r ≡ true
  logged_still r b h =
      if_committed (committed r) (leb (first_number_of s) (number_of r) && same (body_of r) (row_at 14 s.durable.log (number_of r - first_number_of s)))
      (leb (first_number_of after) (number_of r) && same (body_of r) (row_at 14 after.durable.log (number_of r - first_number_of after))) (λ c t. tell (within c) t) h
    where
      within : committed r ≡ true → between (first_number_of s + dropped_by s) (number_of r) (last_of s) ≡ true
      within c = sym (ap (λ (z : Bool). not z || between (first_number_of s + dropped_by s) (number_of r) (last_of s)) c) ∙ b

      tell : between (first_number_of s + dropped_by s) (number_of r) (last_of s) ≡ true → (leb (first_number_of s) (number_of r) && same (body_of r) (row_at 14 s.durable.log (number_of r - first_number_of s))) ≡ true
          → (leb (first_number_of after) (number_of r) && same (body_of r) (row_at 14 after.durable.log (number_of r - first_number_of after))) ≡ true
      tell w t =
          let a = and_both (leb (first_number_of s + dropped_by s) (number_of r)) (leb (number_of r) (last_of s)) w in
          let low : first_number_of s + dropped_by s ≤ number_of r = leb-true (first_number_of s + dropped_by s) (number_of r) a.0 in
          let high : number_of r ≤ last_of s = leb-true (number_of r) (last_of s) a.1 in
          let at : dropped_by s + (number_of r - first_number_of after) ≡ number_of r - first_number_of s = omega (arith, first_now) in
          and_in (leb (first_number_of after) (number_of r)) (same (body_of r) (row_at 14 after.durable.log (number_of r - first_number_of after)))
          (le-leb (first_number_of after) (number_of r) (omega (arith, first_now)))
          (ap (λ (x : List ℕ). same (body_of r) x) (log_now (number_of r - first_number_of after) (omega (arith, first_now, few_dropped, durable.logged_last)))
          ∙ ap (λ (i : ℕ). same (body_of r) (row_at 14 s.durable.log i)) at
          ∙ (and_both (leb (first_number_of s) (number_of r)) (same (body_of r) (row_at 14 s.durable.log (number_of r - first_number_of s))) t).1)

  online_within : every (λ (r : List ℕ). not (committed r) || between (first_number_of s + dropped_by s) (number_of r) (last_of s)) (online_of s) ≡ true
  online_within =
      picked_every committed (λ (r : List ℕ). between (first_number_of s + dropped_by s) (number_of r) (last_of s)) (online_of s)
      (every_both (λ (r : List ℕ). leb (first_number_of s + dropped_by s) (number_of r)) (number_at_most (last_of s)) (λ (r : List ℕ). between (first_number_of s + dropped_by s) (number_of r) (last_of s))
      (λ r a b. and_in (leb (first_number_of s + dropped_by s) (number_of r)) (leb (number_of r) (last_of s)) a b) (keep committed (online_of s)) kept_from (every_keep committed (number_at_most (last_of s)) (online_of s) rows_known))

  above_still : (r : List ℕ) → ltb (page_of r) (pages_of s) ≡ true → stamp_below s.durable r ≡ true → stamp_below after.durable r ≡ true
  above_still r m h = ap (λ (n : ℕ). not (committed r) || ltb n (number_of r)) (stamp_left (page_of r) (ltb-true (page_of r) (pages_of s) m)) ∙ h

  -- close
  pub sound_close : sound (closed s).lent ≡ true
  unfolding closed
  sound_close =
      let r = reads_closed s reads in
      sound_by (holds_durable (closed s).lent close_durable r.areas) r
      (record {
        seated = holds.seated;
        live = holds.live;
        formed = holds.formed;
        owners = every_imp (owned_right s.durable (lives_of s)) (owned_right after.durable (lives_of s)) (λ q. owned_later s.durable after.durable (lives_of s) q (omega (arith, last_left))) (online_of s) holds.owners;
        logged = every_both (λ (q : List ℕ). not (committed q) || between (first_number_of s + dropped_by s) (number_of q) (last_of s)) (in_log s.durable) (in_log after.durable) logged_still (online_of s) online_within holds.logged;
        above = every_both (λ (q : List ℕ). ltb (page_of q) (pages_of s)) (stamp_below s.durable) (stamp_below after.durable) above_still (online_of s) (formed_page (size_of s) (pages_of s) (online_of s) holds.formed) holds.above;
        once = holds.once;
        dirty = holds.dirty;
        apart_all = holds.apart_all;
      })

  pub close_last : last_of (closed s).lent ≡ last_of s
  close_last = last_left

-- compact as a step, due or not
pub sound_step : (s : Lent) (p min_del max_age : ℕ) → sound s ≡ true → p < pages_of s → last_of s ≤ 4294967295
    → (sound (compact_step min_del max_age s p).lent ≡ true) × (last_of (compact_step min_del max_age s p).lent ≡ last_of s) × ((compact_step min_del max_age s p).lent.durable.fixed ≡ s.durable.fixed)
unfolding compact_step compacted
sound_step s p min_del max_age e m last = go (due s p min_del max_age)
  where
    go : (b : Bool) → (sound (cond b (compacted s p) (left s 0 0 0)).lent ≡ true) × (last_of (cond b (compacted s p) (left s 0 0 0)).lent ≡ last_of s) × ((cond b (compacted s p) (left s 0 0 0)).lent.durable.fixed ≡ s.durable.fixed)
    go true = (sound_compact s p e m last, compact_last s p e m last, refl)
    go false = (e, refl, refl)

-- checkpoint: after its first j compacts, and whole
module _ (s : Lent) (min_del max_age : ℕ) (e : sound s ≡ true) (last : last_of s ≤ 4294967295) where
  abbrev upto : ℕ → Lent
  upto j = (after_pages min_del max_age j s).lent

  sound_pages : (j : ℕ) → j ≤ pages_of s → (sound (after_pages min_del max_age j s).lent ≡ true) × (last_of (after_pages min_del max_age j s).lent ≡ last_of s) × ((after_pages min_del max_age j s).lent.durable.fixed ≡ s.durable.fixed)
  unfolding after_pages
  sound_pages zero k = (e, refl, refl)
  sound_pages (suc j) k =
      let h = sound_pages j (omega arith) in
      let n : pages_of (upto j) ≡ pages_of s = ap (λ (l : List ℕ). num 4 l 4) h.2 in
      let r = sound_step (upto j) j min_del max_age h.0 (omega arith) (omega (arith, h.1)) in
      (r.0, r.1 ∙ h.1, r.2 ∙ h.2)

  pub sound_checkpoint : sound (checkpointed min_del max_age s).lent ≡ true
  unfolding checkpointed
  sound_checkpoint =
      let h = sound_pages (pages_of s) (omega arith) in
      sound_close (upto (pages_of s)) h.0 (omega (arith, h.1))
