-- The verdicts: a transaction call on bytes that are right for a history is answered as the history says, but that a full table may refuse an update or a commit.
use Rattle.std.specs.Prelude.{Ok, Err}
use Prim.Native.Nat.{ℕ, ◌+◌}
use native.Mathlib.Omega.{arith}
use mathlib.Core.Path.{◌≡◌, refl, sym, ap, ◌∙◌}
use mathlib.Core.Logic.{◌⊎◌, inl, inr}
use mathlib.Core.Bool.{Bool, true, false, not}
use mathlib.Core.List.{List, [], ◌∷◌}
use lib.ListN.{length, take, drop}
use lib.Dec.{ltb}
use borrow.Author.Tests.{not-false, le-ltb}
use Rattle.record.specs.Record.{row_of}
use Rattle.rules.specs.declared.Refusal.{Refusal}
use Rattle.rules.specs.declared.Refusal.TheVariants.{NotSound, NotLive, Live, Held, OnlineFull, LogFull, NumbersEnd}
use Rattle.rules.specs.Calls.{Verdict}
use Rattle.rules.specs.Lent.{Lent, size_of, pages_of, online_size_of, log_size_of, last_of, logged_of, count_of, online_of}
use Rattle.rules.specs.Steps.{owned}
use Rattle.rules.specs.Calls.{Test, ◌when◌, refuse_if, verdict_of, unsound, no_room, is_number, is_live, begin_refusals, read_refusals, update_refusals, commit_refusals, abort_refusals, judge_begin, judge_read, judge_update, judge_commit, judge_abort}
use Rattle.rules.proofs.Verdicts.{past_all, number_least, number_most}
use Rattle.history.specs.Past.{Past}
use Rattle.history.specs.Saying.{owned_in, say_begin, say_read, say_update, say_commit, say_abort}
use Rattle.history.proofs.Right.{Ground, Right}
use Rattle.history.proofs.Soundly.{right_sound}
use Rattle.history.proofs.Known.{size_read, pages_read, last_read, live_read, read_held, update_held, owned_read}

-- the same verdict, unless it is this refusal
abbrev pub Unless : Refusal → Verdict → Verdict → Type 0
Unless r v w = (v ≡ w) ⊎ (v ≡ Err r)

-- where a table is full that the other never is
unless_full : (r : Refusal) (b c : Bool) (v : Verdict) → c ≡ false → Unless r (refuse_if b r v) (refuse_if c r v)
unfolding refuse_if
unless_full r true c v e = inr refl
unless_full r false c v e = inl (ap (λ (t : Bool). refuse_if t r v) (sym e))

unless_same : {r : Refusal} {u v w : Verdict} → u ≡ v → Unless r v w → Unless r u w
unless_same e (inl f) = inl (e ∙ f)
unless_same e (inr f) = inr (e ∙ f)

module _ (g : Ground) (done : List (List ℕ)) (h : Past) (s : Lent) (c : Right g done h s) where
  -- what is right is sound
  judged : (ts : List Test) → verdict_of (unsound s ∷ ts) ≡ verdict_of ts
  unfolding verdict_of refuse_if
  judged ts = ap (λ (b : Bool). refuse_if (not b) NotSound (verdict_of ts)) (right_sound g done h s c)

  -- past the test of its number, a transaction is live in the tables exactly if the history says so
  live_of : (x : ℕ) → not (is_number x) ≡ false → is_live s.lost.tables x ≡ h.live x
  live_of x e = let n = not-false (is_number x) e in live_read g done h s c x (number_least x n) (number_most x n)

  -- the tests of the tables, and of the history, that may differ: who is live
  pub begin_said : (x : ℕ) → judge_begin s x ≡ say_begin h x
  unfolding judge_begin begin_refusals say_begin verdict_of
  begin_said x =
      let l = begin_refusals (is_live s.lost.tables) x in
      judged l ∙ past_all ◌≡◌ (λ v. refl) (take 1 l) (drop 1 l) (drop 1 (begin_refusals h.live x)) (λ f i. verdict_of (Live when live_of x (f 0) i ∷ []))

  pub abort_said : (x : ℕ) → judge_abort s x ≡ say_abort h x
  unfolding judge_abort abort_refusals say_abort verdict_of
  abort_said x =
      let l = abort_refusals (is_live s.lost.tables) x in
      judged l ∙ past_all ◌≡◌ (λ v. refl) (take 1 l) (drop 1 l) (drop 1 (abort_refusals h.live x)) (λ f i. verdict_of (NotLive when not (live_of x (f 0) i) ∷ []))

  -- and who holds the bytes
  module _ (n x p offset w : ℕ) where
    abbrev reads : ℕ → ℕ → (ℕ → Bool) → List (List ℕ) → List Test
    reads size pages live online = read_refusals size pages live online n x p offset w

    pub read_said : judge_read s n x p offset w ≡ say_read h n x p offset w
    unfolding judge_read read_refusals say_read verdict_of
    read_said =
        let l = reads h.size h.pages (is_live s.lost.tables) (online_of s) in
        judged (reads (size_of s) (pages_of s) (is_live s.lost.tables) (online_of s))
        ∙ (λ i. verdict_of (reads (size_read g done h s c i) (pages_read g done h s c i) (is_live s.lost.tables) (online_of s)))
        ∙ past_all ◌≡◌ (λ v. refl) (take 5 l) (drop 5 l) (drop 5 (reads h.size h.pages h.live h.made))
        (λ f i. verdict_of (NotLive when not (live_of x (f 1) i) ∷ Held when read_held g done h s c x p offset w i ∷ []))

  -- and how many rows are taken
  module _ (x p offset w kind v : ℕ) where
    abbrev updates : ℕ → ℕ → ℕ → ℕ → (ℕ → Bool) → List (List ℕ) → List Test
    updates size pages room m live online = update_refusals size pages room m live online x p offset w kind v

    pub update_said : Unless OnlineFull (judge_update s x p offset w kind v) (say_update h x p offset w kind v)
    unfolding judge_update update_refusals say_update verdict_of
    update_said =
        let l = updates h.size h.pages (online_size_of s) (count_of s) (is_live s.lost.tables) (online_of s) in
        let k = updates h.size h.pages (online_size_of s) (count_of s) h.live h.made in
        unless_same
        (judged (updates (size_of s) (pages_of s) (online_size_of s) (count_of s) (is_live s.lost.tables) (online_of s))
        ∙ (λ i. verdict_of (updates (size_read g done h s c i) (pages_read g done h s c i) (online_size_of s) (count_of s) (is_live s.lost.tables) (online_of s)))
        ∙ past_all ◌≡◌ (λ v. refl) (take 6 l) (drop 6 l) (drop 6 k)
        (λ f i. verdict_of (NotLive when not (live_of x (f 1) i) ∷ Held when update_held g done h s c (row_of p offset w kind v x) i ∷ OnlineFull when no_room (online_size_of s) (count_of s) 1 ∷ [])))
        (past_all (Unless OnlineFull) (λ v. inl refl) (take 8 k) (drop 8 k) (drop 8 (updates h.size h.pages 1 0 h.live h.made)) (λ f. unless_full OnlineFull (no_room (online_size_of s) (count_of s) 1) (no_room 1 0 1) (Ok tt) refl))

  -- and how long the log is
  module _ (x : ℕ) where
    abbrev commits : ℕ → ℕ → ℕ → (ℕ → Bool) → ℕ → List Test
    commits span n last live k = commit_refusals span n last live k x

    same_count : not (is_number x) ≡ false → length (owned s x) ≡ owned_in h x
    same_count e = ap (λ (l : List (List ℕ)). length l) (owned_read g done h s c x (number_least x (not-false (is_number x) e)))

    pub commit_said : Unless LogFull (judge_commit s x) (say_commit h x)
    unfolding judge_commit commit_refusals say_commit verdict_of
    commit_said =
        let l = commits (log_size_of s) (logged_of s) h.last (is_live s.lost.tables) (length (owned s x)) in
        let k = commits (log_size_of s) (logged_of s) h.last h.live (owned_in h x) in
        unless_same
        (judged (commits (log_size_of s) (logged_of s) (last_of s) (is_live s.lost.tables) (length (owned s x)))
        ∙ (λ i. verdict_of (commits (log_size_of s) (logged_of s) (last_read g done h s c i) (is_live s.lost.tables) (length (owned s x))))
        ∙ past_all ◌≡◌ (λ v. refl) (take 1 l) (drop 1 l) (drop 1 k)
        (λ f i. verdict_of (NotLive when not (live_of x (f 0) i) ∷ LogFull when no_room (log_size_of s) (logged_of s) (same_count (f 0) i) ∷ NumbersEnd when ltb 4294967295 (h.last + same_count (f 0) i) ∷ [])))
        (past_all (Unless LogFull) (λ v. inl refl) (take 2 k) (drop 2 k) (drop 2 (commits (owned_in h x) 0 h.last h.live (owned_in h x)))
        (λ f. unless_full LogFull (no_room (log_size_of s) (logged_of s) (owned_in h x)) (no_room (owned_in h x) 0 (owned_in h x)) (verdict_of (drop 3 k)) (le-ltb (owned_in h x) (0 + owned_in h x) (omega arith))))
