-- README's advice on 7 and 8, of any sound tables: after an accepted checkpoint with min_del 1 no committed record is online and the log is empty.
-- So a commit of at most the log's size is not refused 8, an update is refused 7 only while open transactions fill the table, and then one of them can be cancelled, which makes room.
use Rattle.std.specs.Prelude.{Ok, Err}
use Prim.Native.Nat.{ℕ, suc, ◌+◌, ◌-◌, ◌≤◌, ◌<◌}
use native.Mathlib.Omega.{arith}
use mathlib.Core.Path.{◌≡◌, refl, sym, ap, ◌∙◌, subst}
use mathlib.Core.Bool.{Bool, true, false, cond, not, ◌&&◌, ◌||◌, or-false, false≢true}
use mathlib.Core.List.{List, [], ◌∷◌}
use lib.ListN.{length, get_or, drop}
use lib.Dec.{eqb, leb, ltb}
use borrow.Author.Tests.{eqb-false, eq-eqb, leb-true, le-leb, ltb-true, not-true, not-false}
use Rattle.word.specs.Word.{num}
use Rattle.word.proofs.Tests.{and_both, and_in}
use Rattle.record.specs.Rows.{keep, cons_if, any}
use Rattle.record.specs.Record.{page_of, owner_of, number_of, committed, owned_by, row_of}
use Rattle.record.proofs.Rows.{keep_length}
use Rattle.rules.specs.declared.Answer.{Answer}
use Rattle.rules.specs.declared.Answer.TheVariants.{Done, NotDue, Refused}
use Rattle.rules.specs.declared.Counts.{Counts}
use Rattle.rules.specs.declared.Refusal.{Refusal}
use Rattle.rules.specs.declared.Refusal.TheVariants.{NotSound, Argument, OnlineFull, LogFull}
use Rattle.rules.specs.declared.Bad.TheVariants.{Number}
use Rattle.rules.specs.Calls.{Verdict}
use Rattle.rules.specs.Answers.{code_of}
use Rattle.rules.specs.Lent.{Lent, params_of, size_of, pages_of, online_size_of, log_size_of, last_of, logged_of, count_of, online_of}
use Rattle.rules.specs.Sound.{every, between, sound}
use Rattle.rules.specs.Steps.{Left, updated, owned, others, aborted, committing, checkpointed}
use Rattle.rules.specs.Calls.{Outcome, Test, unsound, settled, done_with, refuse_if, verdict_of, is_number, is_live, no_room, abort_refusals, judge_abort, abort_call, update_refusals, judge_update, update_call, commit_refusals, judge_commit, commit_call, judge_checkpoint, checkpoint_call}
use Rattle.rules.proofs.Every.{or_left, or_right, keep_within}
use Rattle.rules.proofs.Clauses.{formed_page}
use Rattle.rules.proofs.Verdicts.{number_least}
use Rattle.rules.proofs.Went.{checkpoint_went}
use Rattle.rules.proofs.Ranges.{ranged}
use Rattle.redo.proofs.Views.{keep_all, keep_none}
use Rattle.redo.proofs.Loose.{owned_open}
use Rattle.readback.proofs.Seen.{lives_of, Whole}
use Rattle.readback.proofs.Lost.{live_whole, reads_aborted}
use Rattle.keeps.proofs.Clauses.{owned_right, sound_gives_durable, sound_sized, sound_whole, sound_holds}
use Rattle.keeps.proofs.Durables.{durable_holds}
use Rattle.keeps.proofs.Calls.{keeps_checkpoint}
use Rattle.keeps.proofs.Sweeps.{uncommitted, checkpoint_empties, checkpoint_open, checkpoint_still, checkpoint_fixed, checkpoint_reads}

-- the verdict that an answer tells, and its number
abbrev judged : Answer → Verdict
judged (Done n) = Ok tt
judged NotDue = Ok tt
judged (Refused r) = Err r

abbrev number_told : Verdict → ℕ
number_told (Ok tt) = 0
number_told (Err r) = code_of r

judged_back : (v : Verdict) (s : Lent) (buffer after : List ℕ) (d : Left) → judged (settled v s buffer (done_with d after)).answer ≡ v
judged_back (Ok tt) s buffer after d = refl
judged_back (Err r) s buffer after d = refl

-- a refusal that was told: a test of its number held
refuses : Verdict → Bool
refuses (Ok tt) = false
refuses (Err r) = true

told_held : (ts : List Test) (q : Refusal) → verdict_of ts ≡ Err q → any (λ (t : Test). eqb (code_of t.gives) (code_of q) && t.holds) ts ≡ true
unfolding verdict_of any refuse_if refuses
told_held [] q e = absurd (false≢true (ap refuses e))
told_held (t ∷ ts) q e = go t.holds e (told_held ts q)
  where
    go : (b : Bool) → refuse_if b t.gives (verdict_of ts) ≡ Err q → (verdict_of ts ≡ Err q → any (λ (u : Test). eqb (code_of u.gives) (code_of q) && u.holds) ts ≡ true) → ((eqb (code_of t.gives) (code_of q) && b) || any (λ (u : Test). eqb (code_of u.gives) (code_of q) && u.holds) ts) ≡ true
    go true k f = or_left (eqb (code_of t.gives) (code_of q) && true) (any (λ (u : Test). eqb (code_of u.gives) (code_of q) && u.holds) ts) (and_in (eqb (code_of t.gives) (code_of q)) true (eq-eqb (code_of t.gives) (code_of q) (ap (λ (w : Verdict). number_told w) k)) refl)
    go false k f = or_right (eqb (code_of t.gives) (code_of q) && false) (any (λ (u : Test). eqb (code_of u.gives) (code_of q) && u.holds) ts) (f k)

-- 8 was told to a commit: its number is one, and the log had too few rows
live_told : (b c : Bool) (v : Verdict) → refuse_if b NotSound (refuse_if c (Argument Number) v) ≡ Err LogFull → c ≡ false
unfolding refuse_if
live_told true c v e = absurd (omega (arith, ap (λ (w : Verdict). number_told w) e))
live_told false true v e = absurd (omega (arith, ap (λ (w : Verdict). number_told w) e))
live_told false false v e = refl

commit_test : (t : Lent) (x : ℕ) → judge_commit t x ≡ Err LogFull → (is_number x ≡ true) × (no_room (log_size_of t) (logged_of t) (length (owned t x)) ≡ true)
unfolding judge_commit commit_refusals verdict_of any
commit_test t x e = (
  not-false (is_number x) (live_told (not (sound t)) (not (is_number x)) (verdict_of (drop 1 (commit_refusals (log_size_of t) (logged_of t) (last_of t) (is_live t.lost.tables) (length (owned t x)) x))) e),
  sym (or-false (no_room (log_size_of t) (logged_of t) (length (owned t x))))
      ∙ told_held (unsound t ∷ commit_refusals (log_size_of t) (logged_of t) (last_of t) (is_live t.lost.tables) (length (owned t x)) x) LogFull e,
)

-- 7 was told to an update: the table had no free row
full_test : (t : Lent) (x p offset w kind v : ℕ) → judge_update t x p offset w kind v ≡ Err OnlineFull → no_room (online_size_of t) (count_of t) 1 ≡ true
unfolding judge_update update_refusals any
full_test t x p offset w kind v e =
    sym (or-false (no_room (online_size_of t) (count_of t) 1))
    ∙ told_held (unsound t ∷ update_refusals (size_of t) (pages_of t) (online_size_of t) (count_of t) (is_live t.lost.tables) (online_of t) x p offset w kind v) OnlineFull e

module _ (s : Lent) (max_age : ℕ) (n : Counts) (e : (checkpoint_call s 1 max_age).answer ≡ Done n) where
  abbrev pub cleared : Lent
  cleared = (checkpoint_call s 1 max_age).lent

  went : judge_checkpoint s 1 max_age ≡ Ok tt
  unfolding checkpoint_call
  went = sym (judged_back (judge_checkpoint s 1 max_age) s [] [] (checkpointed 1 max_age s)) ∙ ap (λ (a : Answer). judged a) e

  was_sound : sound s ≡ true
  was_sound = checkpoint_went s 1 max_age went

  is_done : (checkpoint_call s 1 max_age).lent ≡ (checkpointed 1 max_age s).lent
  unfolding checkpoint_call
  is_done = ap (λ (v : Verdict). (settled v s [] (done_with (checkpointed 1 max_age s) [])).lent) went

  -- no committed record is online, the log is empty, and what open transactions hold is there still
  pub none_online : keep committed (online_of cleared) ≡ []
  none_online = ap (λ (t : Lent). keep committed (online_of t)) is_done ∙ keep_none committed (online_of (checkpointed 1 max_age s).lent) (checkpoint_open s was_sound max_age)

  pub log_empty : logged_of cleared ≡ 0
  log_empty = ap (λ (t : Lent). logged_of t) is_done ∙ checkpoint_empties s was_sound max_age

  pub open_still : keep uncommitted (online_of cleared) ≡ keep uncommitted (online_of s)
  open_still = ap (λ (t : Lent). keep uncommitted (online_of t)) is_done ∙ checkpoint_still s was_sound max_age

  fixed_still : cleared.durable.fixed ≡ s.durable.fixed
  fixed_still = ap (λ (t : Lent). t.durable.fixed) is_done ∙ checkpoint_fixed s was_sound max_age

  all_unset : every uncommitted (online_of cleared) ≡ true
  all_unset = ap (λ (t : Lent). every uncommitted (online_of t)) is_done ∙ checkpoint_open s was_sound max_age

  all_open : keep uncommitted (online_of cleared) ≡ online_of cleared
  all_open = keep_all uncommitted (online_of cleared) all_unset

  reads : Whole cleared
  reads = subst (λ (t : Lent). Whole t) (sym is_done) (checkpoint_reads s was_sound max_age)

  -- a number owns what it owned
  owned_still : (x : ℕ) → 1 ≤ x → owned cleared x ≡ owned s x
  owned_still x low =
      sym (keep_within (owned_by x) uncommitted (λ r k. ap not (owned_open x low r k)) (online_of cleared))
      ∙ ap (λ (l : List (List ℕ)). keep (owned_by x) l) open_still
      ∙ keep_within (owned_by x) uncommitted (λ r k. ap not (owned_open x low r k)) (online_of s)

  -- a commit of at most the log's size is not refused 8
  pub commit_fits : (x : ℕ) → length (owned s x) ≤ log_size_of s → (commit_call cleared x).answer ≡ Refused LogFull → ⊥
  unfolding commit_call
  commit_fits x fits k =
      let v : judge_commit cleared x ≡ Err LogFull = sym (judged_back (judge_commit cleared x) cleared [] [] (committing cleared x)) ∙ ap (λ (a : Answer). judged a) k in
      let held = commit_test cleared x v in
      let more : log_size_of cleared < logged_of cleared + length (owned cleared x) = ltb-true (log_size_of cleared) (logged_of cleared + length (owned cleared x)) held.1 in
      let same : log_size_of cleared ≡ log_size_of s = ap (λ (l : List ℕ). num 4 l 16) fixed_still in
      let mine : length (owned cleared x) ≡ length (owned s x) = ap (λ (l : List (List ℕ)). length l) (owned_still x (number_least x held.0)) in
      omega (arith, more, log_empty, same, mine, fits)

  -- an update is refused 7 only while open transactions fill the table
  pub update_full : (x p offset w kind v : ℕ) → (update_call cleared x p offset w kind v).answer ≡ Refused OnlineFull → length (keep uncommitted (online_of s)) ≡ online_size_of s
  unfolding update_call judge_update
  update_full x p offset w kind v k =
      let j : judge_update cleared x p offset w kind v ≡ Err OnlineFull = sym (judged_back (judge_update cleared x p offset w kind v) cleared [] [] (updated cleared (row_of p offset w kind v x))) ∙ ap (λ (a : Answer). judged a) k in
      let held : no_room (online_size_of cleared) (count_of cleared) 1 ≡ true = full_test cleared x p offset w kind v j in
      let more : online_size_of cleared < count_of cleared + 1 = ltb-true (online_size_of cleared) (count_of cleared + 1) held in
      let same : online_size_of cleared ≡ online_size_of s = ap (λ (l : List ℕ). num 4 l 12) fixed_still in
      let all : length (keep uncommitted (online_of s)) ≡ length (online_of cleared) = ap (λ (l : List (List ℕ)). length l) (sym open_still ∙ all_open) in
      omega (arith, more, same, all, reads.count, reads.room)

-- some transaction can be cancelled, which makes room
pub record MakesRoom (t : Lent) : Type 0 where
  pub who : ℕ
  pub cancelled : (abort_call t who).answer ≡ Done (record { reads = 0; writes = 0; logs = 0 })
  pub room : count_of (abort_call t who).lent < online_size_of t

-- sound tables with an uncommitted row first: its owner is live, and cancelling it frees that row at least
module _ (t : Lent) (e : sound t ≡ true) (r : List ℕ) (l : List (List ℕ)) (is : online_of t ≡ r ∷ l) (c : committed r ≡ false) where
  abbrev who_holds : ℕ
  who_holds = owner_of r

  first_owned : owned_right t.durable (lives_of t) r ≡ true
  unfolding every
  first_owned = (and_both (owned_right t.durable (lives_of t) r) (every (owned_right t.durable (lives_of t)) l) (ap (λ (m : List (List ℕ)). every (owned_right t.durable (lives_of t)) m) (sym is) ∙ (sound_holds t e).owners)).0

  facts : ((leb who_holds 32 && eqb (number_of r) 0) ≡ true) × (eqb (get_or (lives_of t) (who_holds - 1) 0) 1 ≡ true)
  facts =
      and_both (leb who_holds 32 && eqb (number_of r) 0) (eqb (get_or (lives_of t) (who_holds - 1) 0) 1)
      (sym (ap (λ (b : Bool). cond b (between 1 (number_of r) (last_of t)) (leb who_holds 32 && eqb (number_of r) 0 && eqb (get_or (lives_of t) (who_holds - 1) 0) 1)) c) ∙ first_owned)

  low : 1 ≤ who_holds
  low = let n = eqb-false (owner_of r) 0 c in omega arith

  high : who_holds ≤ 32
  high = leb-true who_holds 32 (and_both (leb who_holds 32) (eqb (number_of r) 0) facts.0).0

  holder_is_number : is_number who_holds ≡ true
  holder_is_number = and_in (leb 1 who_holds) (leb who_holds 32) (le-leb 1 who_holds low) (le-leb who_holds 32 high)

  holder_is_live : is_live t.lost.tables who_holds ≡ true
  holder_is_live = ap (λ (n : ℕ). eqb n 1) (live_whole t who_holds (sound_whole t e) low high) ∙ facts.1

  aborts_it : judge_abort t who_holds ≡ Ok tt
  unfolding judge_abort abort_refusals verdict_of refuse_if
  aborts_it = rw (e, holder_is_number, holder_is_live) refl

  fewer : length (others t who_holds) < length (online_of t)
  unfolding keep
  fewer =
      let other : List ℕ → Bool = λ (q : List ℕ). not (owned_by who_holds q) in
      let a : others t who_holds ≡ keep other l = ap (λ (m : List (List ℕ)). keep other m) is ∙ ap (λ (b : Bool). cons_if (not b) r (keep other l)) (eq-eqb (owner_of r) who_holds refl) in
      let n : length (keep other l) ≤ length l = keep_length other l in
      let b : length (others t who_holds) ≡ length (keep other l) = ap (λ (m : List (List ℕ)). length m) a in
      let d : length (online_of t) ≡ suc (length l) = ap (λ (m : List (List ℕ)). length m) is in
      omega arith

  pub makes_room : MakesRoom t
  unfolding abort_call aborted
  makes_room =
      let o : Outcome = done_with (aborted t who_holds) [] in
      let below : every (λ (q : List ℕ). ltb (page_of q) (pages_of t)) (online_of t) ≡ true = formed_page (size_of t) (pages_of t) (online_of t) (sound_holds t e).formed in
      let w = reads_aborted t who_holds (sound_whole t e) (sound_sized t e).online_size low high below in
      let same : (abort_call t who_holds).lent ≡ (aborted t who_holds).lent = ap (λ (v : Verdict). (settled v t [] o).lent) aborts_it in
      record {
        who = who_holds;
        cancelled = ap (λ (v : Verdict). (settled v t [] o).answer) aborts_it;
        room = omega (arith, ap (λ (u : Lent). count_of u) same, w.count, fewer, (sound_whole t e).room);
      }

first_open : (r : List ℕ) (l : List (List ℕ)) → every uncommitted (r ∷ l) ≡ true → committed r ≡ false
unfolding every
first_open r l h = not-true (committed r) (and_both (uncommitted r) (every uncommitted l) h).0

-- a full table is never a dead end: once it was cleared and is full still, some open transaction can be cancelled, and there is room
pub never_stuck : (s : Lent) (max_age : ℕ) (n : Counts) → last_of s ≤ 4294967295 → (checkpoint_call s 1 max_age).answer ≡ Done n
    → (x p offset w kind v : ℕ) → (update_call (checkpoint_call s 1 max_age).lent x p offset w kind v).answer ≡ Refused OnlineFull → MakesRoom (checkpoint_call s 1 max_age).lent
never_stuck s max_age n last e x p offset w kind v k = go (online_of cleared_now) refl
  where
    cleared_now : Lent
    cleared_now = (checkpoint_call s 1 max_age).lent

    good : sound (checkpoint_call s 1 max_age).lent ≡ true
    good = keeps_checkpoint s (was_sound s max_age n e) last 1 max_age

    full : length (online_of (checkpoint_call s 1 max_age).lent) ≡ online_size_of s
    full = ap (λ (m : List (List ℕ)). length m) (sym (all_open s max_age n e) ∙ open_still s max_age n e) ∙ update_full s max_age n e x p offset w kind v k

    least : 1 ≤ online_size_of s
    least = (ranged (params_of s) (durable_holds s (sound_gives_durable s (was_sound s max_age n e))).range).online_least

    go : (l : List (List ℕ)) → online_of (checkpoint_call s 1 max_age).lent ≡ l → MakesRoom (checkpoint_call s 1 max_age).lent
    go [] is = absurd (omega (arith, full, least, ap (λ (m : List (List ℕ)). length m) is))
    go (r ∷ l) is = makes_room (checkpoint_call s 1 max_age).lent good r l is (first_open r l (sym (ap (λ (m : List (List ℕ)). every uncommitted m) is) ∙ all_unset s max_age n e))
