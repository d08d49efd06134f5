-- The incident, for a support desk: what one owner of a number committed is not changed by any later begin, cancel or commit under the same number.
-- `reissued` says so of one call, `committed_stands` of any calls, losses and restarts together.
-- `claim_reads` is the torch's story: after the commit its number is given out again for a claim, the claim is cancelled, and everybody's reads are as before.
use Rattle.std.specs.Prelude.{Ok, Err}
use Prim.Native.Nat.{ℕ, ◌+◌, ◌≤◌}
use native.Mathlib.Omega.{arith}
use mathlib.Core.Path.{◌≡◌, refl, sym, ap, ◌∙◌, subst}
use mathlib.Core.Bool.{Bool, true, false, not, ◌&&◌, ◌||◌, false≢true}
use mathlib.Core.List.{List, [], ◌∷◌, ◌++◌, append-nil}
use lib.ListN.{length, drop}
use lib.Dec.{eqb}
use borrow.Author.Tests.{ne_eqb}
use Rattle.record.specs.Part.{part}
use Rattle.record.specs.Rows.{keep, cons_if}
use Rattle.record.specs.Record.{committed, applied, on_page, committed_on, owned_by, row_of}
use Rattle.record.proofs.Rows.{length_row_of}
use Rattle.rules.specs.declared.Answer.{Answer}
use Rattle.rules.specs.declared.Answer.TheVariants.{Done, NotDue, Refused}
use Rattle.rules.specs.declared.Counts.{Counts}
use Rattle.rules.specs.Calls.{Verdict}
use Rattle.rules.specs.Lent.{Lent, page_in}
use Rattle.rules.specs.Steps.{begun, updated, committing, aborted, restarted}
use Rattle.rules.specs.Calls.{Outcome, settled, done_with, judge_begin, begin_call, read_call, judge_update, update_call, judge_commit, commit_call, judge_abort, abort_call, judge_restart, restart_call}
use Rattle.rules.proofs.Went.{begin_went, abort_went, commit_went, update_went}
use Rattle.redo.proofs.View.{keep_append}
use Rattle.redo.proofs.Views.{keep_all}
use Rattle.record.proofs.Fields.{row_owner}
use Rattle.history.specs.Past.{Past, begins, updates, aborts, start_page, shown}
use Rattle.history.specs.Committed.{committed_of, numbered_to}
use Rattle.history.specs.Run.{Call, Begin, Commit, Abort, Evict, Read, Update, Compact, Checkpoint, Close, Restart, outcome, taken, told, Run, no_format, call, restart, loss, loss_inside}
use Rattle.history.proofs.Known.{last_read, live_read, owned_read}
use Rattle.history.proofs.Incident.{Later, now, begin, update, commit, abort, loss as later_loss, restart as later_restart, stands, abort_shows, unowned, new_shows}
use Rattle.theorem.specs.After.{After, here, then_call, then_restart, then_loss, then_loss_inside, then_no_format, in_claim, Claim, begun as claim_begun, claims}
use Rattle.theorem.proofs.Stands.{within, told_up, Stands, by_verdict, told_silent, up, down, run_stands}
use Rattle.theorem.proofs.Shows.{Rightly, run_right, read_shows}

-- where a history is come to, whatever the bytes
abbrev Reached : Past → Past → Lent → Type 0
Reached h k t = Later h k

silent : {h k : Past} → Later h k → (c : Call) → taken k c ≡ k → (a : Answer) → Later h (told k c a)
silent {h} {k} l c e a = subst (λ (q : Past). Later h q) (sym (told_silent k c e a)) l

later_restarted : {h k : Past} (t : Lent) → Later h k → Later h (told k Restart (restart_call t).answer)
unfolding restart_call told taken
later_restarted {h} t l = by_verdict (Reached h) {s = t} l Restart [] (done_with (restarted t) []) (judge_restart t) (λ e. later_restart l)

-- a call is at most one step of the history
module _ {h k : Past} {t : Lent} (l : Later h k) (q : Rightly k t) where
  commit_room : (x : ℕ) → 1 ≤ x → judge_commit t x ≡ Ok tt → k.last + length (keep (owned_by x) k.made) ≤ 4294967295
  commit_room x m e =
      omega (arith, (commit_went t x e).3, last_read q.ground q.done k t q.right, ap (λ (z : List (List ℕ)). length z) (owned_read q.ground q.done k t q.right x m))

  later_call : (c : Call) → Later h (told k c (outcome t c).answer)
  unfolding outcome begin_call commit_call abort_call update_call told taken
  later_call (Begin x) = by_verdict (Reached h) {s = t} l (Begin x) [] (done_with (begun t x) []) (judge_begin t x) (λ e. begin l x)
  later_call (Commit x) =
      by_verdict (Reached h) {s = t} l (Commit x) [] (done_with (committing t x) []) (judge_commit t x)
      (λ e. let m = within x (commit_went t x e).1 in commit l x m.0 (commit_room x m.0 e))
  later_call (Abort x) = by_verdict (Reached h) {s = t} l (Abort x) [] (done_with (aborted t x) []) (judge_abort t x) (λ e. abort l x (within x (abort_went t x e).1).0)
  later_call (Evict p) = silent l (Evict p) refl (outcome t (Evict p)).answer
  later_call (Read buffer x p offset w) = silent l (Read buffer x p offset w) refl (outcome t (Read buffer x p offset w)).answer
  later_call (Update x p offset w kind v) = by_verdict (Reached h) {s = t} l (Update x p offset w kind v) [] (done_with (updated t row) []) (judge_update t x p offset w kind v) go
    where
      row : List ℕ
      row = row_of p offset w kind v x

      go : judge_update t x p offset w kind v ≡ Ok tt → Later h (updates k row)
      go e =
          let m = within x (update_went t x p offset w kind v e).5 in
          update l row (length_row_of p offset w kind v x) (rw (row_owner p offset w kind v x) (ne_eqb x 0 (λ z. omega (arith, m.0))))
  later_call (Compact p min_del max_age) = silent l (Compact p min_del max_age) refl (outcome t (Compact p min_del max_age)).answer
  later_call (Checkpoint min_del max_age) = silent l (Checkpoint min_del max_age) refl (outcome t (Checkpoint min_del max_age)).answer
  later_call Close = silent l Close refl (outcome t Close).answer
  later_call Restart = later_restarted t l

-- what follows on a run is a run
pub after_run : {h : Past} {s : Lent} {k : Past} {t : Lent} → Run h s → After h s k t → Run k t
after_run r here = r
after_run r (then_call a n c) = call (after_run r a) n c
after_run r (then_restart a) = restart (after_run r a)
after_run r (then_loss a l f) = loss (after_run r a) l f
after_run r (then_loss_inside a n min_del max_age j e m l f) = loss_inside (after_run r a) n min_del max_age j e m l f
after_run r (then_no_format a g last why e) = no_format (after_run r a) g last why e

after_later : {h : Past} {s : Lent} {k : Past} {t : Lent} → Run h s → After h s k t → Later h k
after_later r here = now
after_later r (then_call a n c) = later_call (after_later r a) (run_right (after_run r a) n) c
after_later r (then_restart {t} a) = later_restarted t (after_later r a)
after_later r (then_loss a l f) = later_loss (after_later r a)
after_later r (then_loss_inside a n min_del max_age j e m l f) = later_loss (after_later r a)
after_later r (then_no_format a g last why e) = after_later r a

-- what is committed stands. The history h is of now, k is of any calls, losses and restarts later:
-- what k has committed under the numbers up to the last of now is what h has committed, each update with its number, in the same order
pub committed_stands : {h k : Past} {s t : Lent} → Run h s → After h s k t → keep (numbered_to h.last) k.made ≡ committed_of h
committed_stands {h} {k} {s} r a = go (run_stands r)
  where
    go : Stands h s → keep (numbered_to h.last) k.made ≡ committed_of h
    go (up g done n q) = stands q.past (after_later r a)
    go (down g done n d) = stands d.past (after_later r a)

-- so after one call too, accepted or refused: a begin, a commit or an abort under the same number, or any other
pub reissued : {h : Past} {s : Lent} → Run h s → h.down ≡ false → (c : Call) → keep (numbered_to h.last) (told h c (outcome s c).answer).made ≡ committed_of h
reissued r n c = committed_stands r (then_call here n c)

-- what is answered done was not refused
went_done : (v : Verdict) (s : Lent) (buffer : List ℕ) (o : Outcome) (n : Counts) → (settled v s buffer o).answer ≡ Done n → v ≡ Ok tt
went_done (Ok tt) s buffer o n e = refl
went_done (Err r) s buffer o n e = let z : ◌≡◌ {A = Bool} false true = cc in absurd (false≢true z)

-- an abort under another number, accepted or refused, changes nothing that a reader is shown
pub cancel_shows : (h : Past) (s : Lent) (x y p : ℕ) → (y ≡ x → ⊥) → shown (told h (Abort x) (outcome s (Abort x)).answer) y p ≡ shown h y p
unfolding outcome abort_call told taken
cancel_shows h s x y p d = go (judge_abort s x) refl
  where
    go : (v : Verdict) → judge_abort s x ≡ v → shown (told h (Abort x) (settled v s [] (done_with (aborted s x) [])).answer) y p ≡ shown h y p
    go (Ok tt) e = abort_shows h x y p d (within x (abort_went s x e).1).0
    go (Err r) e = refl

-- an accepted begin: the number is in its range, and was not live
module _ {h : Past} {s : Lent} (q : Rightly h s) (x : ℕ) (n : Counts) (e : (begin_call s x).answer ≡ Done n) where
  given : judge_begin s x ≡ Ok tt
  unfolding begin_call
  given = went_done (judge_begin s x) s [] (done_with (begun s x) []) n e

  given_low : 1 ≤ x
  given_low = (within x (begin_went s x given).1).0

  given_new : h.live x ≡ false
  given_new = let w = begin_went s x given in sym (live_read q.ground q.done h s q.right x (within x w.1).0 (within x w.1).1) ∙ w.2

-- who is given a number is shown just what is committed, whatever the number's earlier owners did
pub owner_shows : {h : Past} {s : Lent} → Run h s → h.down ≡ false → (x p : ℕ) (n : Counts) → (begin_call s x).answer ≡ Done n → shown (told h (Begin x) (outcome s (Begin x)).answer) x p ≡ applied (keep (committed_on p) h.made) (start_page h p)
unfolding outcome told taken begins shown
owner_shows {h} {s} r u x p n e =
    let q = run_right r u in
    ap (λ (a : Answer). shown (told h (Begin x) a) x p) e ∙ new_shows q.right.past x p (given_low q x n e) (given_new q x n e)

-- two histories that differ in the rows of x alone
record Same (x : ℕ) (h k : Past) : Type 0 where
  pub size : k.size ≡ h.size
  pub start : k.start ≡ h.start
  pub made : keep (λ (r : List ℕ). not (owned_by x r)) k.made ≡ keep (λ (r : List ℕ). not (owned_by x r)) h.made

same_taken : (x : ℕ) {h k : Past} → Same x h k → (c : Call) → in_claim x c ≡ true → Same x h (taken k c)
unfolding in_claim taken updates keep
same_taken x q (Begin y) e = absurd (false≢true e)
same_taken x q (Commit y) e = absurd (false≢true e)
same_taken x q (Abort y) e = absurd (false≢true e)
same_taken x q (Evict p) e = q
same_taken x q (Read buffer y p offset w) e = q
same_taken x {h} {k} q (Update y p offset w kind v) e =
    record {
      size = q.size;
      start = q.start;
      made =
          keep_append another k.made (row ∷ [])
          ∙ ap (λ (b : Bool). keep another k.made ++ cons_if (not b) row []) (ap (λ (i : ℕ). eqb i x) (row_owner p offset w kind v y) ∙ e)
          ∙ append-nil (keep another k.made)
          ∙ q.made;
    }
  where
    another : List ℕ → Bool
    another r = not (owned_by x r)

    row : List ℕ
    row = row_of p offset w kind v y
same_taken x q (Compact p min_del max_age) e = q
same_taken x q (Checkpoint min_del max_age) e = q
same_taken x q Close e = q
same_taken x q Restart e = absurd (false≢true e)

same_told : (x : ℕ) {h k : Past} → Same x h k → (c : Call) → in_claim x c ≡ true → (a : Answer) → Same x h (told k c a)
unfolding told
same_told x q c e (Done counts) = same_taken x q c e
same_told x q c e NotDue = q
same_told x q c e (Refused r) = q

same_begun : (x : ℕ) (h : Past) (a : Answer) → Same x h (told h (Begin x) a)
unfolding told taken begins
same_begun x h (Done counts) = record { size = refl; start = refl; made = refl }
same_begun x h NotDue = record { size = refl; start = refl; made = refl }
same_begun x h (Refused r) = record { size = refl; start = refl; made = refl }

same_claim : {x : ℕ} {h : Past} {s : Lent} {k : Past} {t : Lent} → Claim x h s k t → Same x h k
same_claim {x} {h} {s} (claim_begun n e) = same_begun x h (outcome s (Begin x)).answer
same_claim {x} (claims {t} a c e) = same_told x (same_claim a) c e (outcome t c).answer

claim_up : {x : ℕ} {h : Past} {s : Lent} {k : Past} {t : Lent} → h.down ≡ false → Claim x h s k t → k.down ≡ false
claim_up {x} {h} {s} u (claim_begun n e) = told_up h (Begin x) (outcome s (Begin x)).answer u
claim_up u (claims {k} {t} a c e) = told_up k c (outcome t c).answer (claim_up u a)

claim_run : {x : ℕ} {h : Past} {s : Lent} {k : Past} {t : Lent} → Run h s → h.down ≡ false → Claim x h s k t → Run k t
claim_run {x} r u (claim_begun n e) = call r u (Begin x)
claim_run r u (claims a c e) = call (claim_run r u a) (claim_up u a) c

claim_given : {x : ℕ} {h : Past} {s : Lent} {k : Past} {t : Lent} → Rightly h s → Claim x h s k t → (1 ≤ x) × (h.live x ≡ false)
claim_given {x} q (claim_begun n e) = (given_low q x n e, given_new q x n e)
claim_given q (claims a c e) = claim_given q a

-- a number is given out for a claim, and the claim is cancelled: everybody is shown what was shown before the claim, whatever it updated
pub claim_shows : {x : ℕ} {h k : Past} {s t : Lent} → Run h s → h.down ≡ false → Claim x h s k t → (n : Counts) → (abort_call t x).answer ≡ Done n → (y p : ℕ) → shown (told k (Abort x) (outcome t (Abort x)).answer) y p ≡ shown h y p
unfolding outcome told taken aborts shown
claim_shows {x} {h} {k} {s} {t} r u a n e y p =
    ap (λ (z : Answer). shown (told k (Abort x) z) y p) e
    ∙ ap (λ (z : List (List ℕ)). applied (keep sees z) (start_page k p)) ((same_claim a).made ∙ keep_all (λ (row : List ℕ). not (owned_by x row)) h.made (unowned q.right.past x w.0 w.1))
    ∙ ap (λ (z : List ℕ). applied (keep sees h.made) (page_in k.size p z)) (same_claim a).start
    ∙ ap (λ (z : ℕ). applied (keep sees h.made) (page_in z p h.start)) (same_claim a).size
  where
    q : Rightly h s
    q = run_right r u

    w : (1 ≤ x) × (h.live x ≡ false)
    w = claim_given q a

    sees : List ℕ → Bool
    sees row = on_page p row && (committed row || owned_by y row)

-- and every read that is accepted before and after gives the same bytes
pub claim_reads : {x : ℕ} {h k : Past} {s t : Lent} → Run h s → h.down ≡ false → Claim x h s k t → (n : Counts) → (abort_call t x).answer ≡ Done n
    → (buffer : List ℕ) (y p offset w : ℕ) (a b : Counts) → (read_call s buffer y p offset w).answer ≡ Done a → (read_call (abort_call t x).lent buffer y p offset w).answer ≡ Done b
    → (read_call (abort_call t x).lent buffer y p offset w).buffer ≡ (read_call s buffer y p offset w).buffer
unfolding outcome
claim_reads {x} {h} {k} {s} {t} r u l n e buffer y p offset w a b f g =
    read_shows (call (claim_run r u l) (claim_up u l) (Abort x)) (told_up k (Abort x) (outcome t (Abort x)).answer (claim_up u l)) buffer y p offset w b g
    ∙ ap (λ (z : List ℕ). part offset w z ++ drop w buffer) (claim_shows r u l n e y p)
    ∙ sym (read_shows r u buffer y p offset w a f)
