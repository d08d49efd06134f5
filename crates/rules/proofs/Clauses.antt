-- Soundness as its clauses: the two parts, the zeros behind the rows, and S17 and S19, which soundness walks together, as the two clauses of 01.
use Prim.Native.Nat.{ℕ, ◌*◌}
use mathlib.Core.Path.{◌≡◌, refl, ◌∙◌}
use mathlib.Core.Bool.{Bool, true, false, ◌&&◌, ◌||◌}
use mathlib.Core.List.{List}
use lib.ListN.{drop}
use lib.Dec.{eqb, leb}
use Rattle.word.proofs.Tests.{and_both}
use Rattle.record.specs.Record.{well_formed}
use Rattle.rules.specs.Lent.{Lent, pages_of, dirty_of, closed_of, first_number_of, logged_of, count_of}
use Rattle.rules.specs.Shape.{page_below}
use Rattle.rules.specs.Sound.{every, zeros, sound, sound_durable, sound_lost, s1_parameters, s2_lengths, s3_logged, s16_logged, s18_first, s15_stamps, s17_dirty, s19_first, s17_s19_dirty, s7_log_records, s14_log_zero, s3_counts, s20_live, s4_entries, s5_frame_once, s6_order, s14_order_zero, s7_online_records, s8_owners, s14_online_zero, s10_in_log, s11_above_stamp, s9_number_once, s12_dirty, s13_apart}
use Rattle.rules.proofs.Every.{every_imp}
use Rattle.rules.proofs.Walks.{up_to_alike, up_to_both}

spread : (z x y : Bool) → (z || (x && y)) ≡ ((z || x) && (z || y))
spread true x y = refl
spread false x y = refl

pub both_dirty : (s : Lent) → s17_s19_dirty s ≡ (s19_first s && s17_dirty s)
unfolding s17_dirty s19_first s17_s19_dirty
both_dirty s =
    up_to_alike (λ (p : ℕ). eqb (dirty_of s p) 0 || (leb (first_number_of s) (dirty_of s p) && leb (dirty_of s p) (closed_of s))) (λ (p : ℕ). (eqb (dirty_of s p) 0 || leb (first_number_of s) (dirty_of s p)) && (eqb (dirty_of s p) 0 || leb (dirty_of s p) (closed_of s)))
    (pages_of s) 0 (λ p _ _. spread (eqb (dirty_of s p) 0) (leb (first_number_of s) (dirty_of s p)) (leb (dirty_of s p) (closed_of s)))
    ∙ up_to_both (λ (p : ℕ). eqb (dirty_of s p) 0 || leb (first_number_of s) (dirty_of s p)) (λ (p : ℕ). eqb (dirty_of s p) 0 || leb (dirty_of s p) (closed_of s)) (pages_of s) 0

-- the two parts
pub sound_gives_durable : (s : Lent) → sound s ≡ true → sound_durable s ≡ true
unfolding sound
sound_gives_durable s e = (and_both (sound_durable s) (sound_lost s) e).0

pub sound_gives_lost : (s : Lent) → sound s ≡ true → sound_lost s ≡ true
unfolding sound
sound_gives_lost s e = (and_both (sound_durable s) (sound_lost s) e).1

-- rows past the counts are zero
pub log_zero : (s : Lent) → sound s ≡ true → zeros (drop (logged_of s * 14) s.durable.log) ≡ true
unfolding sound_durable s14_log_zero
log_zero s e =
    (and_both (s1_parameters s && s2_lengths s && s3_logged s && s16_logged s && s18_first s && s15_stamps s && s17_s19_dirty s && s7_log_records s) (s14_log_zero s) (sound_gives_durable s e)).1

module _ (s : Lent) where
  -- the lost part's tests, as far as the online table's zeros and on from there
  abbrev to_owners : Bool
  to_owners = s3_counts s && s20_live s && s4_entries s && s5_frame_once s && s6_order s && s14_order_zero s && s7_online_records s && s8_owners s

  abbrev to_zeros : Bool
  to_zeros = to_owners && s14_online_zero s

  abbrev to_log : Bool
  to_log = to_zeros && s10_in_log s

  abbrev to_stamp : Bool
  to_stamp = to_log && s11_above_stamp s

  abbrev to_once : Bool
  to_once = to_stamp && s9_number_once s

  abbrev to_dirty : Bool
  to_dirty = to_once && s12_dirty s

  pub online_zero : sound s ≡ true → zeros (drop (count_of s * 19) s.lost.online) ≡ true
  unfolding sound_lost s14_online_zero
  online_zero e =
      let dirty : to_dirty ≡ true = (and_both to_dirty (s13_apart s) (sound_gives_lost s e)).0 in
      let once : to_once ≡ true = (and_both to_once (s12_dirty s) dirty).0 in
      let stamp : to_stamp ≡ true = (and_both to_stamp (s9_number_once s) once).0 in
      let log : to_log ≡ true = (and_both to_log (s11_above_stamp s) stamp).0 in
      (and_both to_owners (s14_online_zero s) (and_both to_zeros (s10_in_log s) log).0).1

-- S7: a row that is well formed is of a page of the store
pub formed_below : (size pages : ℕ) (r : List ℕ) → well_formed size pages r ≡ true → page_below pages r ≡ true
unfolding well_formed
formed_below size pages r k = (and_both _ _ (and_both _ _ (and_both _ _ (and_both _ _ k).0).0).0).0

pub formed_page : (size pages : ℕ) (l : List (List ℕ)) → every (well_formed size pages) l ≡ true → every (page_below pages) l ≡ true
formed_page size pages l h = every_imp (well_formed size pages) (page_below pages) (formed_below size pages) l h
