-- Two stores that are driven side by side give the same answers, counts apart, and a read the same bytes, until one of them reports 7 or 8.
-- Each is a run of the same history, and what the history says does not look at a table.
use Rattle.std.specs.Prelude.{Ok, Err}
use Prim.Native.Nat.{ℕ}
use mathlib.Core.Path.{◌≡◌, refl, sym, ap, ◌∙◌, subst}
use mathlib.Core.Logic.{inl, inr}
use mathlib.Core.Bool.{true, false, true≢false, false≢true}
use mathlib.Core.List.{List, []}
use lib.ListN.{length}
use Rattle.record.specs.Record.{committed, row_of}
use Rattle.rules.specs.declared.Params.{Params}
use Rattle.rules.specs.declared.Refusal.{Refusal}
use Rattle.rules.specs.declared.Refusal.TheVariants.{OnlineFull, LogFull}
use Rattle.rules.specs.declared.Answer.{Answer}
use Rattle.rules.specs.Calls.{Verdict}
use Rattle.rules.specs.Lent.{Lent}
use Rattle.rules.specs.Steps.{Left, begun, read_step, read_bytes, updated, committing, aborted}
use Rattle.rules.specs.Calls.{Outcome, settled, done_with, begin_call, read_call, update_call, commit_call, abort_call, restart_call, format_call}
use Rattle.history.specs.Past.{Past, fresh, falls, rises}
use Rattle.history.specs.Run.{Call, Begin, Commit, Abort, Evict, Read, Update, Compact, Checkpoint, Close, Restart, outcome, taken, told, after_loss, Run, format, no_format, call, restart, loss, loss_inside}
use Rattle.history.specs.Twins.{transaction, upkeep, is_full, full, Agree, acted, not_due, refused, Aside, keeping, not_formatted, lost_again, Loses, between_calls, inside, Twins, formats, both, first, second, losses, restarts}
use Rattle.rules.proofs.Every.{keep_within}
use Rattle.history.proofs.Saying.{Unless, begin_said, read_said, update_said, commit_said, abort_said}
use Rattle.theorem.proofs.Stands.{told_up, told_silent}
use Rattle.theorem.proofs.Shows.{Rightly, run_right, restart_accepted, read_right}

-- the answers agree and the buffers are equal
abbrev pub Alike : Outcome → Outcome → Type 0
Alike a b = Agree a.answer b.answer × (a.buffer ≡ b.buffer)

-- the same verdict: both refuse alike, or both act; then the bytes handed back have to be the same
alike_by : {v₁ v₂ : Verdict} → v₁ ≡ v₂ → (s₁ s₂ : Lent) (buffer : List ℕ) (d₁ d₂ : Left) (b₁ b₂ : List ℕ) → (v₁ ≡ Ok tt → v₂ ≡ Ok tt → b₁ ≡ b₂)
    → Alike (settled v₁ s₁ buffer (done_with d₁ b₁)) (settled v₂ s₂ buffer (done_with d₂ b₂))
alike_by {v₁} {v₂} e s₁ s₂ buffer d₁ d₂ b₁ b₂ f = subst (λ (v : Verdict). Alike (settled v₁ s₁ buffer (done_with d₁ b₁)) (settled v s₂ buffer (done_with d₂ b₂))) e (go v₁ (λ k. f k (sym e ∙ k)))
  where
    go : (v : Verdict) → (v ≡ Ok tt → b₁ ≡ b₂) → Alike (settled v s₁ buffer (done_with d₁ b₁)) (settled v s₂ buffer (done_with d₂ b₂))
    go (Ok tt) k = (acted (record { reads = d₁.reads; writes = d₁.writes; logs = d₁.logs }) (record { reads = d₂.reads; writes = d₂.writes; logs = d₂.logs }), k refl)
    go (Err r) k = (refused r, refl)

-- what is not refused with 7 or 8 is answered as the history says
said_unless : (r : Refusal) {v w : Verdict} (s : Lent) (buffer : List ℕ) (o : Outcome) → is_full r ≡ true → Unless r v w → full (settled v s buffer o).answer ≡ false → v ≡ w
unfolding full
said_unless r s buffer o f (inl e) k = e
said_unless r {v} {w} s buffer o f (inr e) k = absurd (true≢false (sym f ∙ (subst (λ (u : Verdict). full (settled u s buffer o).answer ≡ false) e k)))

-- what a call adds to the history goes by its answer alone, and upkeep adds nothing
told_same : (h : Past) (c : Call) {a b : Answer} → Agree a b → told h c a ≡ told h c b
unfolding told
told_same h c (acted a b) = refl
told_same h c not_due = refl
told_same h c (refused r) = refl

taken_aside : (h : Past) (c : Call) → upkeep c ≡ true → taken h c ≡ h
unfolding taken upkeep
taken_aside h (Begin x) e = absurd (false≢true e)
taken_aside h (Commit x) e = absurd (false≢true e)
taken_aside h (Abort x) e = absurd (false≢true e)
taken_aside h (Evict p) e = refl
taken_aside h (Read buffer x p offset w) e = absurd (false≢true e)
taken_aside h (Update x p offset w kind v) e = absurd (false≢true e)
taken_aside h (Compact p min_del max_age) e = refl
taken_aside h (Checkpoint min_del max_age) e = refl
taken_aside h Close e = refl
taken_aside h Restart e = absurd (false≢true e)

-- a history that awaits a restart is as after a loss: one more changes nothing of it
falls_twice : (h : Past) → falls (falls h) ≡ falls h
unfolding falls
falls_twice h = ap (λ (l : List (List ℕ)). record { size = h.size; pages = h.pages; start = h.start; last = h.last; made = l; live = λ (y : ℕ). false; down = true }) (keep_within committed committed (λ r e. e) h.made)

falls_down : {h : Past} {s : Lent} → Run h s → h.down ≡ true → falls h ≡ h
unfolding fresh taken rises told
falls_down (format s g last e) n = absurd (false≢true n)
falls_down (no_format r g last why e) n = falls_down r n
falls_down (call {h} {s} r m c) n = absurd (false≢true (sym (told_up h c (outcome s c).answer m) ∙ n))
falls_down (restart {h} {s} r) n = absurd (false≢true (sym (ap (λ (a : Answer). (told h Restart a).down) (restart_accepted r)) ∙ n))
falls_down (loss {h} r l f) n = falls_twice h
falls_down (loss_inside {h} r m min_del max_age j e k l f) n = falls_twice h

-- what one store may do alone, and its losses, are a run's
run_aside : {h : Past} {s t : Lent} → Run h s → Aside h s t → Run h t
run_aside {h} {s} r (keeping n c e) = subst (λ (k : Past). Run k (outcome s c).lent) (told_silent h c (taken_aside h c e) (outcome s c).answer) (call r n c)
run_aside r (not_formatted g last why e) = no_format r g last why e
run_aside {h} {s} r (lost_again n l f) = subst (λ (k : Past). Run k (after_loss s l)) (falls_down r n) (loss r l f)

run_loses : {h : Past} {s t : Lent} → Run h s → Loses h s t → Run (falls h) t
run_loses r (between_calls l f) = loss r l f
run_loses r (inside n min_del max_age j e m l f) = loss_inside r n min_del max_age j e m l f

module _ {h : Past} {s₁ s₂ : Lent} (r₁ : Rightly h s₁) (r₂ : Rightly h s₂) where
  -- two stores that are right for one history answer a transaction call alike, unless one says 7 or 8
  pub right_agree : (c : Call) → transaction c ≡ true → full (outcome s₁ c).answer ≡ false → full (outcome s₂ c).answer ≡ false → Alike (outcome s₁ c) (outcome s₂ c)
  unfolding transaction outcome begin_call commit_call abort_call read_call update_call is_full
  right_agree (Begin x) t f₁ f₂ =
      alike_by (begin_said r₁.ground r₁.done h s₁ r₁.right x ∙ sym (begin_said r₂.ground r₂.done h s₂ r₂.right x))
      s₁ s₂ [] (begun s₁ x) (begun s₂ x) [] [] (λ _ _. refl)
  right_agree (Commit x) t f₁ f₂ =
      alike_by
      (said_unless LogFull s₁ [] (done_with (committing s₁ x) []) refl (commit_said r₁.ground r₁.done h s₁ r₁.right x) f₁
      ∙ sym (said_unless LogFull s₂ [] (done_with (committing s₂ x) []) refl (commit_said r₂.ground r₂.done h s₂ r₂.right x) f₂))
      s₁ s₂ [] (committing s₁ x) (committing s₂ x) [] [] (λ _ _. refl)
  right_agree (Abort x) t f₁ f₂ =
      alike_by (abort_said r₁.ground r₁.done h s₁ r₁.right x ∙ sym (abort_said r₂.ground r₂.done h s₂ r₂.right x))
      s₁ s₂ [] (aborted s₁ x) (aborted s₂ x) [] [] (λ _ _. refl)
  right_agree (Evict p) t f₁ f₂ = absurd (false≢true t)
  right_agree (Read buffer x p offset w) t f₁ f₂ =
      alike_by (read_said r₁.ground r₁.done h s₁ r₁.right (length buffer) x p offset w ∙ sym (read_said r₂.ground r₂.done h s₂ r₂.right (length buffer) x p offset w))
      s₁ s₂ buffer (read_step s₁ p) (read_step s₂ p) (read_bytes s₁ p offset w buffer) (read_bytes s₂ p offset w buffer)
      (λ e₁ e₂. read_right r₁.right buffer x p offset w e₁ ∙ sym (read_right r₂.right buffer x p offset w e₂))
  right_agree (Update x p offset w kind v) t f₁ f₂ =
      alike_by
      (said_unless OnlineFull s₁ [] (done_with (updated s₁ (row_of p offset w kind v x)) []) refl (update_said r₁.ground r₁.done h s₁ r₁.right x p offset w kind v) f₁
      ∙ sym (said_unless OnlineFull s₂ [] (done_with (updated s₂ (row_of p offset w kind v x)) []) refl (update_said r₂.ground r₂.done h s₂ r₂.right x p offset w kind v) f₂))
      s₁ s₂ [] (updated s₁ (row_of p offset w kind v x)) (updated s₂ (row_of p offset w kind v x)) [] [] (λ _ _. refl)
  right_agree (Compact p min_del max_age) t f₁ f₂ = absurd (false≢true t)
  right_agree (Checkpoint min_del max_age) t f₁ f₂ = absurd (false≢true t)
  right_agree Close t f₁ f₂ = absurd (false≢true t)
  right_agree Restart t f₁ f₂ = absurd (false≢true t)

-- a new history knows of the parameters the page size and the pages alone
fresh_same : (g₁ g₂ : Params) (last : ℕ) {k l : List ℕ} → g₁.size ≡ g₂.size → g₁.pages ≡ g₂.pages → k ≡ l → fresh g₁ last k ≡ fresh g₂ last l
unfolding fresh
fresh_same g₁ g₂ last e f h = rw (e, f, h) refl

-- each of two stores side by side is a run of the one history
pub twin_runs : {h : Past} {s₁ s₂ : Lent} → Twins h s₁ s₂ → Run h s₁ × Run h s₂
twin_runs (formats s₁ s₂ g₁ g₂ last es ep e a₁ a₂) =
    (format s₁ g₁ last a₁, subst (λ (q : Past). Run q (format_call s₂ g₂ last).lent) (sym (fresh_same g₁ g₂ last es ep e)) (format s₂ g₂ last a₂))
twin_runs (both {h} {s₁} {s₂} t n c k f₁ f₂) =
    let r : Run h s₁ × Run h s₂ = twin_runs t in
    let a : Agree (outcome s₁ c).answer (outcome s₂ c).answer = (right_agree (run_right r.0 n) (run_right r.1 n) c k f₁ f₂).0 in
    (call r.0 n c, subst (λ (q : Past). Run q (outcome s₂ c).lent) (sym (told_same h c a)) (call r.1 n c))
twin_runs (first {h} {s₁} {s₂} t a) = let r : Run h s₁ × Run h s₂ = twin_runs t in (run_aside r.0 a, r.1)
twin_runs (second {h} {s₁} {s₂} t a) = let r : Run h s₁ × Run h s₂ = twin_runs t in (r.0, run_aside r.1 a)
twin_runs (losses {h} {s₁} {s₂} t a₁ a₂) = let r : Run h s₁ × Run h s₂ = twin_runs t in (run_loses r.0 a₁, run_loses r.1 a₂)
twin_runs (restarts {h} {s₁} {s₂} t) =
    let r : Run h s₁ × Run h s₂ = twin_runs t in
    (restart r.0, subst (λ (q : Past). Run q (restart_call s₂).lent) (ap (λ (a : Answer). told h Restart a) (restart_accepted r.1 ∙ sym (restart_accepted r.0))) (restart r.1))

-- two stores side by side answer a transaction call alike, unless one says 7 or 8
pub twins_agree : {h : Past} {s₁ s₂ : Lent} → Twins h s₁ s₂ → h.down ≡ false → (c : Call) → transaction c ≡ true → full (outcome s₁ c).answer ≡ false → full (outcome s₂ c).answer ≡ false
    → Agree (outcome s₁ c).answer (outcome s₂ c).answer × ((outcome s₁ c).buffer ≡ (outcome s₂ c).buffer)
twins_agree {h} {s₁} {s₂} t n c k f₁ f₂ = right_agree (run_right (twin_runs t).0 n) (run_right (twin_runs t).1 n) c k f₁ f₂
