-- From the doors to the runs: what C is told and left by a call is a step of a run, and the history goes by the code that C sees.
-- A restart at any time, a format, and two stores at their doors too.
use Rattle.std.specs.Prelude.{Ok, Err}
use Prim.Native.Nat.{ℕ}
use mathlib.Core.Path.{◌≡◌, refl, sym, ap, ◌∙◌, subst}
use mathlib.Core.Bool.{Bool, true, false}
use mathlib.Core.List.{List, [], ◌++◌}
use lib.ListN.{length, drop}
use Rattle.record.specs.Part.{part}
use Rattle.record.specs.Record.{row_of}
use Rattle.rules.specs.declared.Params.{Params}
use Rattle.rules.specs.declared.Answer.{Answer}
use Rattle.rules.specs.declared.Answer.TheVariants.{Done, NotDue, Refused}
use Rattle.rules.specs.declared.Refusal.{Refusal}
use Rattle.rules.specs.declared.Refusal.TheVariants.{NotSound, Argument, ShortBuffer, NotLive, Live, Held, OnlineFull, LogFull, NumbersEnd, NoFrame}
use Rattle.rules.specs.declared.Reply.{Reply}
use Rattle.rules.specs.Calls.{Verdict}
use Rattle.rules.specs.Answers.{code_of, reply_of}
use Rattle.rules.specs.Lent.{Lent}
use Rattle.rules.specs.Steps.{Left, begun, read_step, read_bytes, updated, committing, aborted, evicted, due, compacted, closed, checkpointed, restarted, formatted}
use Rattle.rules.specs.Calls.{Outcome, settled, done_with, due_or, judge_begin, begin_call, judge_read, read_call, judge_update, update_call, judge_commit, commit_call, judge_abort, abort_call, judge_evict, evict_call, judge_compact, compact_call, judge_close, close_call, judge_checkpoint, checkpoint_call, judge_restart, restart_call, judge_format, format_call}
use Rattle.ventarico.specs.Said.{Told}
use Rattle.history.specs.Past.{Past, fresh, shown}
use Rattle.history.specs.Run.{Call, Begin, Commit, Abort, Evict, Read, Update, Compact, Checkpoint, Close, Restart, outcome, taken, told, Run, format, no_format, call, restart}
use Rattle.history.specs.Twins.{transaction, upkeep, is_full, full, Agree, acted, not_due, refused, keeping, Twins, formats, both, first, second, restarts}
use Rattle.theorem.specs.Heard.{heard_as, heard, heard_format, says_full}
use Rattle.theorem.proofs.Shows.{restart_accepted, read_shows}
use Rattle.theorem.proofs.Twins.{twin_runs, twins_agree}

-- a refusal's number is not 0
refused_heard : (h k : Past) (r : Refusal) → h ≡ heard_as h k (reply_of (Refused r))
unfolding heard_as
refused_heard h k NotSound = refl
refused_heard h k (Argument b) = refl
refused_heard h k ShortBuffer = refl
refused_heard h k NotLive = refl
refused_heard h k Live = refl
refused_heard h k Held = refl
refused_heard h k OnlineFull = refl
refused_heard h k LogFull = refl
refused_heard h k NumbersEnd = refl
refused_heard h k NoFrame = refl

-- a call that is done or refused
by_answer : (h : Past) (c : Call) (v : Verdict) (s : Lent) (buffer after : List ℕ) (d : Left) → told h c (settled v s buffer (done_with d after)).answer ≡ heard h c (reply_of (settled v s buffer (done_with d after)).answer)
unfolding told heard_as
by_answer h c (Ok tt) s buffer after d = refl
by_answer h c (Err r) s buffer after d = refused_heard h (taken h c) r

pub told_heard : (h : Past) (s : Lent) (c : Call) → told h c (outcome s c).answer ≡ heard h c (reply_of (outcome s c).answer)
unfolding outcome begin_call read_call update_call commit_call abort_call evict_call compact_call close_call checkpoint_call restart_call told heard_as taken
told_heard h s (Begin x) = by_answer h (Begin x) (judge_begin s x) s [] [] (begun s x)
told_heard h s (Commit x) = by_answer h (Commit x) (judge_commit s x) s [] [] (committing s x)
told_heard h s (Abort x) = by_answer h (Abort x) (judge_abort s x) s [] [] (aborted s x)
told_heard h s (Evict p) = by_answer h (Evict p) (judge_evict s p) s [] [] (evicted s p)
told_heard h s (Read buffer x p offset w) = by_answer h (Read buffer x p offset w) (judge_read s (length buffer) x p offset w) s buffer (read_bytes s p offset w buffer) (read_step s p)
told_heard h s (Update x p offset w kind v) = by_answer h (Update x p offset w kind v) (judge_update s x p offset w kind v) s [] [] (updated s (row_of p offset w kind v x))
told_heard h s (Compact p min_del max_age) = pick (judge_compact s p min_del max_age) (due s p min_del max_age)
  where
    pick : (v : Verdict) (b : Bool) → told h (Compact p min_del max_age) (settled v s [] (due_or b s (done_with (compacted s p) []))).answer ≡ heard h (Compact p min_del max_age) (reply_of (settled v s [] (due_or b s (done_with (compacted s p) []))).answer)
    pick (Ok tt) true = refl
    pick (Ok tt) false = refl
    pick (Err r) b = refused_heard h h r
told_heard h s (Checkpoint min_del max_age) = by_answer h (Checkpoint min_del max_age) (judge_checkpoint s min_del max_age) s [] [] (checkpointed min_del max_age s)
told_heard h s Close = by_answer h Close (judge_close s) s [] [] (closed s)
told_heard h s Restart = by_answer h Restart (judge_restart s) s [] [] (restarted s)

-- a call at its door is a step of a run
pub door : {h : Past} {s : Lent} → Run h s → h.down ≡ false → (c : Call) (r : Reply) (t : Lent) → Told (outcome s c) r t → Run (heard h c r) t
door {h} {s} u n c r t k =
    subst (λ (l : Lent). Run (heard h c r) l) (sym k.lent)
    (subst (λ (z : Past). Run z (outcome s c).lent) (told_heard h s c ∙ ap (λ (y : Reply). heard h c y) (sym k.reply)) (call u n c))

-- a restart at its door, at any time: also while one is awaited
pub restart_door : {h : Past} {s : Lent} → Run h s → (r : Reply) (t : Lent) → Told (restart_call s) r t → Run (heard h Restart r) t
unfolding outcome
restart_door {h} {s} u r t k =
    subst (λ (l : Lent). Run (heard h Restart r) l) (sym k.lent)
    (subst (λ (z : Past). Run z (restart_call s).lent) (told_heard h s Restart ∙ ap (λ (y : Reply). heard h Restart y) (sym k.reply)) (restart u))

code_refused : (r : Refusal) → code_of r ≡ 0 → ◌≡◌ {A = Bool} false true
code_refused NotSound e = cc
code_refused (Argument b) e = cc
code_refused ShortBuffer e = cc
code_refused NotLive e = cc
code_refused Live e = cc
code_refused Held e = cc
code_refused OnlineFull e = cc
code_refused LogFull e = cc
code_refused NumbersEnd e = cc
code_refused NoFrame e = cc

-- what C is told of an accepted format, and of a refused one
done_format : (s : Lent) (g : Params) (last : ℕ) (r : Reply) → r ≡ reply_of (format_call s g last).answer → r.code ≡ 0 → (format_call s g last).answer ≡ Done (record { reads = 0; writes = 0; logs = 0 })
unfolding format_call formatted
done_format s g last r e z = go (judge_format s g last) (sym (ap (λ (y : Reply). y.code) e) ∙ z)
  where
    go : (v : Verdict) → (reply_of (settled v s [] (done_with (formatted s g last) [])).answer).code ≡ 0 → (settled v s [] (done_with (formatted s g last) [])).answer ≡ Done (record { reads = 0; writes = 0; logs = 0 })
    go (Ok tt) k = refl
    go (Err why) k = absurd (mathlib.Core.Bool.false≢true (code_refused why k))

-- the first format at its door: of any bytes at all
pub first_door : (s : Lent) (g : Params) (last : ℕ) (r : Reply) (t : Lent) → Told (format_call s g last) r t → r.code ≡ 0 → Run (fresh g last s.durable.stored) t
first_door s g last r t k z = subst (λ (l : Lent). Run (fresh g last s.durable.stored) l) (sym k.lent) (format s g last (done_format s g last r k.reply z))

-- a format at its door, at any time: the history begins anew, or nothing has happened
pub format_door : {h : Past} {s : Lent} → Run h s → (g : Params) (last : ℕ) (r : Reply) (t : Lent) → Told (format_call s g last) r t → Run (heard_format h g last s.durable.stored r) t
unfolding heard_as
format_door {h} {s} u g last r t k =
    subst (λ (l : Lent). Run (heard_format h g last s.durable.stored r) l) (sym k.lent)
    (subst (λ (y : Reply). Run (heard_format h g last s.durable.stored y) (format_call s g last).lent) (sym k.reply) (go (format_call s g last).answer refl))
  where
    accepted : (reply_of (format_call s g last).answer).code ≡ 0 → Run (fresh g last s.durable.stored) (format_call s g last).lent
    accepted z = format s g last (done_format s g last (reply_of (format_call s g last).answer) refl z)

    go : (a : Answer) → (format_call s g last).answer ≡ a → Run (heard_format h g last s.durable.stored (reply_of a)) (format_call s g last).lent
    go (Done n) e = accepted (ap (λ (a : Answer). (reply_of a).code) e)
    go NotDue e = accepted (ap (λ (a : Answer). (reply_of a).code) e)
    go (Refused why) e = subst (λ (z : Past). Run z (format_call s g last).lent) (refused_heard h (fresh g last s.durable.stored) why) (no_format u g last why e)

-- a read that C is told is done has put what the history shows into the caller's buffer, and left the rest of it
pub read_at_door : {h : Past} {s : Lent} → Run h s → h.down ≡ false → (buffer after : List ℕ) (x p offset w : ℕ) (r : Reply) (t : Lent) → Told (read_call s buffer x p offset w) r t → after ≡ (read_call s buffer x p offset w).buffer → r.code ≡ 0
    → after ≡ part offset w (shown h x p) ++ drop w buffer
unfolding read_call
read_at_door {h} {s} u n buffer after x p offset w r t k b e = b ∙ pick (judge_read s (length buffer) x p offset w) refl (sym (ap (λ (y : Reply). y.code) k.reply) ∙ e)
  where
    left : Outcome
    left = done_with (read_step s p) (read_bytes s p offset w buffer)

    pick : (v : Verdict) → judge_read s (length buffer) x p offset w ≡ v → (reply_of (settled v s buffer left).answer).code ≡ 0 → (settled (judge_read s (length buffer) x p offset w) s buffer left).buffer ≡ part offset w (shown h x p) ++ drop w buffer
    pick (Ok tt) f z = read_shows u n buffer x p offset w (record { reads = (read_step s p).reads; writes = (read_step s p).writes; logs = (read_step s p).logs }) (ap (λ (v : Verdict). (settled v s buffer left).answer) f)
    pick (Err why) f z = absurd (mathlib.Core.Bool.false≢true (code_refused why z))

-- 7 and 8 as the code tells them
full_said : (a : Answer) → full a ≡ says_full (reply_of a)
unfolding full is_full says_full
full_said (Done n) = refl
full_said NotDue = refl
full_said (Refused r) = refl

-- answers that agree are told by one code and one note
agree_told : {a b : Answer} → Agree a b → ((reply_of a).code ≡ (reply_of b).code) × ((reply_of a).note ≡ (reply_of b).note)
agree_told (acted a b) = (refl, refl)
agree_told not_due = (refl, refl)
agree_told (refused r) = (refl, refl)

-- two stores at their doors: the same transaction call to both, of which neither says 7 or 8, is told by the same code and note, hands back the same bytes, and leaves two stores of one history
module _ {h : Past} {s₁ s₂ : Lent} (u : Twins h s₁ s₂) where
  twins_at : {k : Past} {l₁ l₂ : Lent} (t₁ t₂ : Lent) → t₁ ≡ l₁ → t₂ ≡ l₂ → Twins k l₁ l₂ → Twins k t₁ t₂
  twins_at {k} {l₁} {l₂} t₁ t₂ e₁ e₂ w = subst (λ (l : Lent). Twins k l t₂) (sym e₁) (subst (λ (l : Lent). Twins k l₁ l) (sym e₂) w)

  pub twins_door : h.down ≡ false → (c : Call) → transaction c ≡ true → (r₁ r₂ : Reply) (t₁ t₂ : Lent) → Told (outcome s₁ c) r₁ t₁ → Told (outcome s₂ c) r₂ t₂ → says_full r₁ ≡ false → says_full r₂ ≡ false
      → (r₁.code ≡ r₂.code) × (r₁.note ≡ r₂.note) × ((outcome s₁ c).buffer ≡ (outcome s₂ c).buffer) × Twins (heard h c r₁) t₁ t₂
  twins_door n c k r₁ r₂ t₁ t₂ e₁ e₂ f₁ f₂ =
      let g₁ : full (outcome s₁ c).answer ≡ false = full_said (outcome s₁ c).answer ∙ ap (λ (y : Reply). says_full y) (sym e₁.reply) ∙ f₁ in
      let g₂ : full (outcome s₂ c).answer ≡ false = full_said (outcome s₂ c).answer ∙ ap (λ (y : Reply). says_full y) (sym e₂.reply) ∙ f₂ in
      let a = twins_agree u n c k g₁ g₂ in
      let b = agree_told a.0 in (
        ap (λ (y : Reply). y.code) e₁.reply ∙ b.0 ∙ sym (ap (λ (y : Reply). y.code) e₂.reply),
        ap (λ (y : Reply). y.note) e₁.reply ∙ b.1 ∙ sym (ap (λ (y : Reply). y.note) e₂.reply),
        a.1,
        subst (λ (z : Past). Twins z t₁ t₂) (told_heard h s₁ c ∙ ap (λ (y : Reply). heard h c y) (sym e₁.reply)) (twins_at t₁ t₂ e₁.lent e₂.lent (both u n c k g₁ g₂)),
      )

  -- evict, compact, close or checkpoint of one of them
  pub first_aside : h.down ≡ false → (c : Call) → upkeep c ≡ true → (r : Reply) (t : Lent) → Told (outcome s₁ c) r t → Twins h t s₂
  first_aside n c k r t e = subst (λ (l : Lent). Twins h l s₂) (sym e.lent) (first u (keeping n c k))

  pub second_aside : h.down ≡ false → (c : Call) → upkeep c ≡ true → (r : Reply) (t : Lent) → Told (outcome s₂ c) r t → Twins h s₁ t
  second_aside n c k r t e = subst (λ (l : Lent). Twins h s₁ l) (sym e.lent) (second u (keeping n c k))

  -- a restart of both, at any time
  pub twins_restart : (r₁ r₂ : Reply) (t₁ t₂ : Lent) → Told (restart_call s₁) r₁ t₁ → Told (restart_call s₂) r₂ t₂ → (r₁.code ≡ 0) × (r₂.code ≡ 0) × Twins (heard h Restart r₁) t₁ t₂
  unfolding outcome
  twins_restart r₁ r₂ t₁ t₂ e₁ e₂ = (
    ap (λ (y : Reply). y.code) e₁.reply ∙ ap (λ (a : Answer). (reply_of a).code) (restart_accepted (twin_runs u).0),
    ap (λ (y : Reply). y.code) e₂.reply ∙ ap (λ (a : Answer). (reply_of a).code) (restart_accepted (twin_runs u).1),
    subst (λ (z : Past). Twins z t₁ t₂) (told_heard h s₁ Restart ∙ ap (λ (y : Reply). heard h Restart y) (sym e₁.reply)) (twins_at t₁ t₂ e₁.lent e₂.lent (restarts u)),
  )

-- and their first formats
pub twins_format : (s₁ s₂ : Lent) (g₁ g₂ : Params) (last : ℕ) → g₁.size ≡ g₂.size → g₁.pages ≡ g₂.pages → s₁.durable.stored ≡ s₂.durable.stored → (r₁ r₂ : Reply) (t₁ t₂ : Lent)
    → Told (format_call s₁ g₁ last) r₁ t₁ → Told (format_call s₂ g₂ last) r₂ t₂ → r₁.code ≡ 0 → r₂.code ≡ 0 → Twins (fresh g₁ last s₁.durable.stored) t₁ t₂
twins_format s₁ s₂ g₁ g₂ last a b c r₁ r₂ t₁ t₂ e₁ e₂ z₁ z₂ =
    subst (λ (l : Lent). Twins (fresh g₁ last s₁.durable.stored) l t₂) (sym e₁.lent)
    (subst (λ (l : Lent). Twins (fresh g₁ last s₁.durable.stored) (format_call s₁ g₁ last).lent l) (sym e₂.lent)
    (formats s₁ s₂ g₁ g₂ last a b c (done_format s₁ g₁ last r₁ e₁.reply z₁) (done_format s₂ g₂ last r₂ e₂.reply z₂)))
