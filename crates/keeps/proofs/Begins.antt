-- Begin, evict and abort on sound tables leave sound tables: one live byte, one entry, an owner's rows.
use Prim.Native.Nat.{ℕ, ◌-◌, ◌%◌, ◌≤◌, ◌<◌}
use native.Mathlib.Omega.{arith}
use mathlib.Core.Path.{◌≡◌, refl, sym, ap, ◌∙◌, subst}
use mathlib.Core.Bool.{Bool, true, false, cond, not, ◌&&◌}
use mathlib.Core.List.{List}
use lib.ListN.{length, get_or, set}
use lib.Seq.{get_or-set_same, get_or-set_other}
use lib.Dec.{eqb, leb, ltb}
use borrow.Author.Tests.{eqb-true, eqb-false, not-true}
use Rattle.word.proofs.Tests.{and_both, and_in}
use Rattle.record.specs.Rows.{keep}
use Rattle.record.specs.Record.{page_of, owner_of, number_of, committed, owned_by, well_formed}
use Rattle.record.proofs.Parts.{length_part}
use Rattle.order.specs.Order.{without}
use Rattle.rules.specs.Lent.{Lent, Durable, size_of, pages_of, frames_of, last_of, order_of, entry_of, entries_of, online_of, in_frame, frame_of, is_dirty}
use Rattle.rules.specs.Sound.{every, between, apart, sound}
use Rattle.rules.specs.Steps.{freed_of, begun, evicted, owned, others, aborted}
use Rattle.rules.proofs.Every.{every_set, every_keep, every_kept_where}
use Rattle.rules.proofs.Every.{every_imp}
use Rattle.rules.proofs.Clauses.{formed_page}
use Rattle.seats.proofs.Seated.{Seated}
use Rattle.seats.proofs.Places.{seated_leave}
use Rattle.seats.proofs.Loops.{seated_abort, abort_dirty}
use Rattle.readback.proofs.Seen.{only, lives_of, Whole}
use Rattle.readback.proofs.Lost.{entry_whole, entries_length, reads_begun, reads_evicted, reads_aborted}
use Rattle.keeps.proofs.Tests.{pairs_keep, differ}
use Rattle.keeps.proofs.Clauses.{owned_right, in_log, stamp_below, HoldsIn, sound_gives_durable, sound_sized, sound_whole, sound_holds, sound_by, durable_again}

-- S8 of a row by other live bytes, where its owner is live by those too
owned_again : (d : Durable) (lives after r : List ℕ) → (committed r ≡ false → eqb (get_or lives (owner_of r - 1) 0) 1 ≡ true → eqb (get_or after (owner_of r - 1) 0) 1 ≡ true)
    → owned_right d lives r ≡ true → owned_right d after r ≡ true
owned_again d lives after r f h = go (committed r) refl h
  where
    here : Bool
    here = between 1 (number_of r) (last_of (only d))

    bounds : Bool
    bounds = leb (owner_of r) 32 && eqb (number_of r) 0

    go : (b : Bool) → committed r ≡ b → cond b here (bounds && eqb (get_or lives (owner_of r - 1) 0) 1) ≡ true → cond b here (bounds && eqb (get_or after (owner_of r - 1) 0) 1) ≡ true
    go true e k = k
    go false e k =
        let t = and_both bounds (eqb (get_or lives (owner_of r - 1) 0) 1) k in
        and_in bounds (eqb (get_or after (owner_of r - 1) 0) 1) t.0 (f e t.1)

-- who is live stays so once another is made live
set_live : (lives : List ℕ) (i j : ℕ) → i < length lives → eqb (get_or lives j 0) 1 ≡ true → eqb (get_or (set lives i 1) j 0) 1 ≡ true
set_live lives i j k h = go (eqb j i) refl
  where
    go : (b : Bool) → eqb j i ≡ b → eqb (get_or (set lives i 1) j 0) 1 ≡ true
    go true e = ap (λ (n : ℕ). eqb (get_or (set lives i 1) n 0) 1) (eqb-true j i e) ∙ ap (λ (n : ℕ). eqb n 1) (get_or-set_same lives i 1 0 k)
    go false e = ap (λ (n : ℕ). eqb n 1) (get_or-set_other lives i j 1 0 (eqb-false j i e)) ∙ h

pub lives_length : (s : Lent) → Whole s → length (lives_of s) ≡ 32
lives_length s w = length_part 3 32 s.lost.tables (omega (arith, w.areas.tables))

-- begin
pub sound_begin : (s : Lent) (x : ℕ) → sound s ≡ true → 1 ≤ x → x ≤ 32 → sound (begun s x).lent ≡ true
unfolding begun
sound_begin s x e low high =
    let h : HoldsIn s = sound_holds s e in
    let r = reads_begun s x (sound_whole s e) low high in
    let k : x - 1 < length (lives_of s) = omega (arith, lives_length s (sound_whole s e)) in
    sound_by (durable_again s.durable s.lost (begun s x).lent.lost (sound_gives_durable s e) r.areas) r
    (record {
      seated = h.seated;
      live = every_set (λ (b : ℕ). leb b 1) (lives_of s) (x - 1) 1 h.live refl;
      formed = h.formed;
      owners =
          every_imp (owned_right s.durable (lives_of s)) (owned_right s.durable (set (lives_of s) (x - 1) 1))
          (λ q. owned_again s.durable (lives_of s) (set (lives_of s) (x - 1) 1) q (λ c t. set_live (lives_of s) (x - 1) (owner_of q - 1) k t)) (online_of s) h.owners;
      logged = h.logged;
      above = h.above;
      once = h.once;
      dirty = h.dirty;
      apart_all = h.apart_all;
    })

-- S12 where one entry becomes another that is as dirty
dirty_set : (es : List ℕ) (p e q : ℕ) → p < length es → is_dirty e ≡ is_dirty (get_or es p 0) → is_dirty (get_or (set es p e) q 0) ≡ is_dirty (get_or es q 0)
dirty_set es p e q k h = go (eqb q p) refl
  where
    go : (b : Bool) → eqb q p ≡ b → is_dirty (get_or (set es p e) q 0) ≡ is_dirty (get_or es q 0)
    go true z =
        let i : q ≡ p = eqb-true q p z in
        ap (λ (n : ℕ). is_dirty (get_or (set es p e) n 0)) i ∙ ap (λ (n : ℕ). is_dirty n) (get_or-set_same es p e 0 k) ∙ h ∙ ap (λ (n : ℕ). is_dirty (get_or es n 0)) (sym i)
    go false z = ap (λ (n : ℕ). is_dirty n) (get_or-set_other es p q e 0 (eqb-false q p z))

-- evict
pub sound_evict : (s : Lent) (p : ℕ) → sound s ≡ true → p < pages_of s → in_frame (entry_of s p) ≡ true → sound (evicted s p).lent ≡ true
unfolding evicted
sound_evict s p e m i =
    let h : HoldsIn s = sound_holds s e in
    let r = reads_evicted s p (sound_whole s e) m in
    let k : p < length (entries_of s) = omega (arith, entries_length s (sound_whole s e).areas) in
    let t : entry_of s p ≡ get_or (entries_of s) p 0 = entry_whole s p (sound_whole s e) m in
    let z : entry_of s p % 2 % 2 ≡ entry_of s p % 2 = omega arith in
    let o : freed_of (get_or (entries_of s) p 0) (order_of s) ≡ without (frame_of (entry_of s p)) (order_of s) =
    ap (λ (n : ℕ). freed_of n (order_of s)) (sym t) ∙ ap (λ (b : Bool). cond b (without (frame_of (entry_of s p)) (order_of s)) (order_of s)) i in
    sound_by (durable_again s.durable s.lost (evicted s p).lent.lost (sound_gives_durable s e) r.areas) r
    (record {
      seated = subst (λ (l : List ℕ). Seated (frames_of s) (set (entries_of s) p (entry_of s p % 2)) l) o (seated_leave h.seated p (entry_of s p % 2) k (omega arith));
      live = h.live;
      formed = h.formed;
      owners = h.owners;
      logged = h.logged;
      above = h.above;
      once = h.once;
      dirty = λ q j. dirty_set (entries_of s) p (entry_of s p % 2) q k (ap (λ (n : ℕ). eqb n 1) z ∙ ap (λ (n : ℕ). is_dirty n) t) ∙ h.dirty q j;
      apart_all = h.apart_all;
    })

-- who is live stays so once another ends
unset_live : (lives : List ℕ) (x y : ℕ) → 1 ≤ x → 1 ≤ y → (y ≡ x → ⊥) → eqb (get_or lives (y - 1) 0) 1 ≡ true → eqb (get_or (set lives (x - 1) 0) (y - 1) 0) 1 ≡ true
unset_live lives x y k m n h = ap (λ (i : ℕ). eqb i 1) (get_or-set_other lives (x - 1) (y - 1) 0 0 (λ z. n (omega arith))) ∙ h

-- the rows of the others are owned by who is live still
pub others_owned : (d : Durable) (lives : List ℕ) (x : ℕ) (l : List (List ℕ)) → 1 ≤ x → every (owned_right d lives) l ≡ true
    → every (owned_right d (set lives (x - 1) 0)) (keep (λ (r : List ℕ). not (owned_by x r)) l) ≡ true
others_owned d lives x l low h =
    every_kept_where (λ (r : List ℕ). not (owned_by x r)) (owned_right d lives) (owned_right d (set lives (x - 1) 0))
    (λ r b k. owned_again d lives (set lives (x - 1) 0) r
    (λ c t. unset_live lives x (owner_of r) low (one r c) (eqb-false (owner_of r) x (not-true (owned_by x r) b)) t) k) l h
  where
    one : (r : List ℕ) → committed r ≡ false → 1 ≤ owner_of r
    one r c = let n = eqb-false (owner_of r) 0 c in omega arith

-- abort
pub sound_abort : (s : Lent) (x : ℕ) → sound s ≡ true → 1 ≤ x → x ≤ 32 → sound (aborted s x).lent ≡ true
unfolding aborted
sound_abort s x e low high =
    let h : HoldsIn s = sound_holds s e in
    let below : every (λ (r : List ℕ). ltb (page_of r) (pages_of s)) (online_of s) ≡ true = formed_page (size_of s) (pages_of s) (online_of s) h.formed in
    let r = reads_aborted s x (sound_whole s e) (sound_sized s e).online_size low high below in
    let n : length (entries_of s) ≡ pages_of s = entries_length s (sound_whole s e).areas in
    let other : List ℕ → Bool = λ (q : List ℕ). not (owned_by x q) in
    sound_by (durable_again s.durable s.lost (aborted s x).lent.lost (sound_gives_durable s e) r.areas) r
    (record {
      seated =
          seated_abort (frames_of s) (others s x) (owned s x) (entries_of s) s.lost.tables (order_of s) h.seated
          (ap (λ (i : ℕ). every (λ (q : List ℕ). ltb (page_of q) i) (owned s x)) n ∙ every_keep (owned_by x) (λ (q : List ℕ). ltb (page_of q) (pages_of s)) (online_of s) below)
          (λ i k. entry_whole s i (sound_whole s e) (omega (arith, n)));
      live = every_set (λ (b : ℕ). leb b 1) (lives_of s) (x - 1) 0 h.live refl;
      formed = every_keep other (well_formed (size_of s) (pages_of s)) (online_of s) h.formed;
      owners = others_owned s.durable (lives_of s) x (online_of s) low h.owners;
      logged = every_keep other (in_log s.durable) (online_of s) h.logged;
      above = every_keep other (stamp_below s.durable) (online_of s) h.above;
      once = pairs_keep other differ (online_of s) h.once;
      dirty = λ q k. abort_dirty x q (online_of s) (entries_of s) (omega (arith, n)) (h.dirty q k);
      apart_all = pairs_keep other apart (online_of s) h.apart_all;
    })
