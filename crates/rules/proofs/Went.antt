-- What a verdict of go says of each call: no test of its list held.
use Rattle.std.specs.Prelude.{Ok}
use Prim.Native.Nat.{ℕ, ◌+◌, ◌^◌, ◌≤◌, ◌<◌}
use native.Mathlib.Omega.{arith}
use mathlib.Core.Path.{◌≡◌}
use mathlib.Core.Bool.{Bool, true, false, not, ◌&&◌}
use mathlib.Core.List.{List, [], ◌∷◌}
use lib.ListN.{length}
use lib.Dec.{eqb, leb, ltb}
use borrow.Author.Tests.{ltb-true, ltb-false, leb-true, eqb-true, not-false}
use Rattle.word.proofs.Tests.{and_both}
use Rattle.record.specs.Record.{is_length, row_of}
use Rattle.record.proofs.Laws.{length_most}
use Rattle.rules.specs.declared.Refusal.TheVariants.{NotSound, Argument, OnlineFull}
use Rattle.rules.specs.declared.Bad.TheVariants.{Parameter, Lent as LentLength}
use Rattle.rules.specs.declared.Params.{Params}
use Rattle.rules.specs.Lent.{Lent, size_of, pages_of, online_size_of, log_size_of, last_of, logged_of, count_of, entry_of, online_of, in_frame}
use Rattle.rules.specs.Sound.{sound, sound_durable, in_range, exact_lengths}
use Rattle.rules.specs.Steps.{owned, entering_all}
use Rattle.rules.specs.Calls.{Test, ◌when◌, unsound, is_number, is_live, held_to_read, held_to_update, begin_refusals, judge_begin, read_refusals, judge_read, update_refusals, judge_update, commit_refusals, judge_commit, abort_refusals, judge_abort, evict_refusals, judge_evict, compact_refusals, judge_compact, judge_close, checkpoint_refusals, judge_checkpoint, judge_restart, judge_format}
use Rattle.rules.proofs.Verdicts.{test_at, failed}

pub begin_went : (s : Lent) (x : ℕ) → judge_begin s x ≡ Ok tt → (sound s ≡ true) × (is_number x ≡ true) × (is_live s.lost.tables x ≡ false)
unfolding judge_begin begin_refusals
begin_went s x e = let f = failed (unsound s ∷ begin_refusals (is_live s.lost.tables) x) e in (not-false (sound s) (f 0), not-false (is_number x) (f 1), f 2)

pub abort_went : (s : Lent) (x : ℕ) → judge_abort s x ≡ Ok tt → (sound s ≡ true) × (is_number x ≡ true)
unfolding judge_abort abort_refusals
abort_went s x e = let f = failed (unsound s ∷ abort_refusals (is_live s.lost.tables) x) e in (not-false (sound s) (f 0), not-false (is_number x) (f 1))

pub evict_went : (s : Lent) (p : ℕ) → judge_evict s p ≡ Ok tt → (sound s ≡ true) × (p < pages_of s) × (in_frame (entry_of s p) ≡ true)
unfolding judge_evict evict_refusals
evict_went s p e =
    let f = failed (unsound s ∷ evict_refusals (pages_of s) (entry_of s p) p) e in
    (not-false (sound s) (f 0), ltb-true p (pages_of s) (not-false (ltb p (pages_of s)) (f 1)), not-false (in_frame (entry_of s p)) (f 2))

pub commit_went : (s : Lent) (x : ℕ) → judge_commit s x ≡ Ok tt → (sound s ≡ true) × (is_number x ≡ true) × (logged_of s + length (owned s x) ≤ log_size_of s) × (last_of s + length (owned s x) ≤ 4294967295)
unfolding judge_commit commit_refusals
commit_went s x e =
    let k : ℕ = length (owned s x) in
    let f = failed (unsound s ∷ commit_refusals (log_size_of s) (logged_of s) (last_of s) (is_live s.lost.tables) k x) e in
    (not-false (sound s) (f 0), not-false (is_number x) (f 1), ltb-false (log_size_of s) (logged_of s + k) (f 3), ltb-false 4294967295 (last_of s + k) (f 4))

module _ (s : Lent) (n x p offset w : ℕ) (e : judge_read s n x p offset w ≡ Ok tt) where
  abbrev read_tests : List Test
  read_tests = unsound s ∷ read_refusals (size_of s) (pages_of s) (is_live s.lost.tables) (online_of s) n x p offset w

  none_held : (i : ℕ) → test_at read_tests i ≡ false
  unfolding judge_read
  none_held = failed read_tests e

  pub read_went : (sound s ≡ true) × (p < pages_of s) × (offset + w ≤ size_of s) × (w ≤ n)
  unfolding read_refusals
  read_went = (
    not-false (sound s) (none_held 0),
    ltb-true p (pages_of s) (not-false (ltb p (pages_of s)) (none_held 1)),
    leb-true (offset + w) (size_of s) (not-false (leb (offset + w) (size_of s)) (none_held 4)),
    ltb-false n w (none_held 5),
  )

  -- whose read it is, and that nobody else holds a byte of it
  pub read_whose : (is_number x ≡ true) × (is_live s.lost.tables x ≡ true) × (held_to_read (online_of s) x p offset w ≡ false)
  unfolding read_refusals
  read_whose = (not-false (is_number x) (none_held 2), not-false (is_live s.lost.tables x) (none_held 6), none_held 7)

module _ (s : Lent) (x p offset w kind v : ℕ) (e : judge_update s x p offset w kind v ≡ Ok tt) where
  abbrev update_tests : List Test
  update_tests = unsound s ∷ update_refusals (size_of s) (pages_of s) (online_size_of s) (count_of s) (is_live s.lost.tables) (online_of s) x p offset w kind v

  no_test : (i : ℕ) → test_at update_tests i ≡ false
  unfolding judge_update
  no_test = failed update_tests e

  pub update_went : (sound s ≡ true) × (p < pages_of s) × (offset + w ≤ size_of s) × (w ≤ 8) × (count_of s < online_size_of s) × (is_number x ≡ true) × (kind ≤ 1)
  unfolding update_refusals
  update_went =
      let free : count_of s + 1 ≤ online_size_of s = ltb-false (online_size_of s) (count_of s + 1) (no_test 9) in (
        not-false (sound s) (no_test 0),
        ltb-true p (pages_of s) (not-false (ltb p (pages_of s)) (no_test 1)),
        leb-true (offset + w) (size_of s) (not-false (leb (offset + w) (size_of s)) (no_test 4)),
        length_most w (not-false (is_length w) (no_test 3)),
        omega arith,
        not-false (is_number x) (no_test 2),
        leb-true kind 1 (not-false (leb kind 1) (no_test 6)),
      )

  -- whose update it is, and what it writes
  pub update_whose : (is_length w ≡ true) × (v < 256 ^ w) × (is_live s.lost.tables x ≡ true) × (held_to_update (online_of s) (row_of p offset w kind v x) ≡ false)
  unfolding update_refusals
  update_whose = (
    not-false (is_length w) (no_test 3),
    ltb-true v (256 ^ w) (not-false (ltb v (256 ^ w)) (no_test 5)),
    not-false (is_live s.lost.tables x) (no_test 7),
    no_test 8,
  )

pub compact_went : (s : Lent) (p min_del max_age : ℕ) → judge_compact s p min_del max_age ≡ Ok tt → (sound s ≡ true) × (p < pages_of s)
unfolding judge_compact compact_refusals
compact_went s p min_del max_age e =
    let f = failed (unsound s ∷ compact_refusals (pages_of s) p min_del max_age) e in
    (not-false (sound s) (f 0), ltb-true p (pages_of s) (not-false (ltb p (pages_of s)) (f 1)))

pub checkpoint_went : (s : Lent) (min_del max_age : ℕ) → judge_checkpoint s min_del max_age ≡ Ok tt → sound s ≡ true
unfolding judge_checkpoint
checkpoint_went s min_del max_age e = not-false (sound s) (failed (unsound s ∷ checkpoint_refusals min_del max_age) e 0)

pub close_went : (s : Lent) → judge_close s ≡ Ok tt → sound s ≡ true
unfolding judge_close
close_went s e = not-false (sound s) (failed (unsound s ∷ []) e 0)

pub restart_went : (s : Lent) → judge_restart s ≡ Ok tt → (sound_durable s ≡ true) × (length (entering_all s) ≤ online_size_of s)
unfolding judge_restart
restart_went s e =
    let f = failed (NotSound when not (sound_durable s) ∷ OnlineFull when ltb (online_size_of s) (length (entering_all s)) ∷ []) e in
    (not-false (sound_durable s) (f 0), ltb-false (online_size_of s) (length (entering_all s)) (f 1))

pub format_went : (s : Lent) (g : Params) (last : ℕ) → judge_format s g last ≡ Ok tt
    → (in_range g ≡ true) × (length s.durable.fixed ≡ 20) × (exact_lengths s g ≡ true) × (last ≤ 4294967295)
unfolding judge_format
format_went s g last e =
    let ranged : Bool = in_range g && leb last 4294967295 in
    let fits : Bool = eqb (length s.durable.fixed) 20 && exact_lengths s g in
    let f = failed (Argument Parameter when not ranged ∷ Argument LentLength when not fits ∷ []) e in
    let c = and_both (in_range g) (leb last 4294967295) (not-false ranged (f 0)) in
    let d = and_both (eqb (length s.durable.fixed) 20) (exact_lengths s g) (not-false fits (f 1)) in
    (c.0, eqb-true (length s.durable.fixed) 20 d.0, d.1, leb-true last 4294967295 c.1)
