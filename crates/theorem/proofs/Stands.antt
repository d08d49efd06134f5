-- Every run stands: after each call and each loss the history and the bytes are right, or await a restart.
use Rattle.std.specs.Prelude.{Ok, Err}
use Prim.Native.Nat.{ℕ, ◌+◌, ◌*◌, ◌≤◌, ◌<◌}
use mathlib.Core.Path.{◌≡◌, refl, sym, ap, ◌∙◌}
use mathlib.Core.Bool.{Bool, true, false}
use mathlib.Core.List.{List, [], ◌++◌, map}
use lib.ListN.{length}
use lib.Dec.{leb}
use borrow.Author.Tests.{leb-true}
use Rattle.word.specs.Word.{num}
use Rattle.word.proofs.Tests.{and_both}
use Rattle.record.specs.Record.{body_of, row_of}
use Rattle.rules.specs.declared.Params.{Params}
use Rattle.rules.specs.declared.Answer.{Answer}
use Rattle.rules.specs.declared.Answer.TheVariants.{Done, NotDue, Refused}
use Rattle.rules.specs.declared.Refusal.{Refusal}
use Rattle.rules.specs.Calls.{Verdict}
use Rattle.rules.specs.Lent.{Lent, Lost, pages_of}
use Rattle.rules.specs.Sound.{between}
use Rattle.rules.specs.Steps.{begun, read_step, read_bytes, updated, owned, committing, aborted, evicted, due, compacted, closed, checkpointed, restarted, formatted}
use Rattle.rules.specs.Calls.{Outcome, settled, done_with, due_or, judge_begin, begin_call, judge_read, read_call, judge_update, update_call, judge_commit, commit_call, judge_abort, abort_call, judge_evict, evict_call, judge_compact, compact_call, judge_close, close_call, judge_checkpoint, checkpoint_call, judge_restart, restart_call, judge_format, format_call}
use Rattle.rules.proofs.Went.{begin_went, abort_went, evict_went, commit_went, read_went, update_went, update_whose, compact_went, format_went}
use Rattle.history.specs.Past.{Past, fresh, begins, updates, commits, aborts, falls, rises}
use Rattle.history.specs.Run.{Call, Begin, Commit, Abort, Evict, Read, Update, Compact, Checkpoint, Close, Restart, outcome, taken, told, Fits, after_loss, after_steps, Run, format, no_format, call, restart, loss, loss_inside}
use Rattle.history.proofs.Right.{Ground, Right, Down}
use Rattle.history.proofs.Known.{live_read}
use Rattle.history.proofs.Begins.{keeps_begin, keeps_evict}
use Rattle.history.proofs.Fetches.{keeps_read, keeps_update}
use Rattle.history.proofs.Commits.{keeps_commit}
use Rattle.history.proofs.Aborts.{keeps_abort}
use Rattle.history.proofs.Compacts.{keeps_compact}
use Rattle.history.proofs.Checkpoints.{keeps_checkpoint, keeps_steps, fixed_steps}
use Rattle.history.proofs.Closes.{keeps_close}
use Rattle.history.proofs.Restarts.{keeps_restart, keeps_loss, keeps_loss_down, keeps_restart_up}
use Rattle.history.proofs.Formats.{format_right}

-- a number of a transaction is within its range
pub within : (x : ℕ) → between 1 x 32 ≡ true → (1 ≤ x) × (x ≤ 32)
within x e = let k = and_both (leb 1 x) (leb x 32) e in (leb-true 1 x k.0, leb-true x 32 k.1)

-- no call, accepted or refused, leaves a store that is up awaiting a restart
pub told_up : (h : Past) (c : Call) (a : Answer) → h.down ≡ false → (told h c a).down ≡ false
unfolding told taken begins updates commits aborts rises
told_up h (Begin x) (Done counts) n = n
told_up h (Commit x) (Done counts) n = n
told_up h (Abort x) (Done counts) n = n
told_up h (Evict p) (Done counts) n = n
told_up h (Read buffer x p offset w) (Done counts) n = n
told_up h (Update x p offset w kind v) (Done counts) n = n
told_up h (Compact p min_del max_age) (Done counts) n = n
told_up h (Checkpoint min_del max_age) (Done counts) n = n
told_up h Close (Done counts) n = n
told_up h Restart (Done counts) n = refl
told_up h c NotDue n = n
told_up h c (Refused r) n = n

-- the bytes and the history of a store: right while it is up, and fit for a restart while it is down
pub data Stands (h : Past) (s : Lent) : Type 0 where
  up : (g : Ground) (done : List (List ℕ)) → h.down ≡ false → Right g done h s → Stands h s
  down : (g : Ground) (done : List (List ℕ)) → h.down ≡ true → Down g done h s → Stands h s

-- a call that is settled: refused, nothing changes; else its step
pub by_verdict : (P : Past → Lent → Type 0) {h : Past} {s : Lent} → P h s → (c : Call) (buffer : List ℕ) (o : Outcome) (v : Verdict) → (v ≡ Ok tt → P (told h c o.answer) o.lent) → P (told h c (settled v s buffer o).answer) (settled v s buffer o).lent
unfolding told
by_verdict P p c buffer o (Ok tt) f = f refl
by_verdict P p c buffer o (Err r) f = p

-- what adds nothing to the history when it is done adds nothing at all
pub told_silent : (h : Past) (c : Call) → taken h c ≡ h → (a : Answer) → told h c a ≡ h
unfolding told
told_silent h c e (Done counts) = e
told_silent h c e NotDue = refl
told_silent h c e (Refused r) = refl

module _ {g : Ground} {done : List (List ℕ)} {h : Past} {s : Lent} (n : h.down ≡ false) (r : Right g done h s) where
  here : Stands h s
  here = up g done n r

  stands_begin : (x : ℕ) → Stands (told h (Begin x) (begin_call s x).answer) (begin_call s x).lent
  unfolding begin_call told taken begins here
  stands_begin x = by_verdict Stands here (Begin x) [] (done_with (begun s x) []) (judge_begin s x) go
    where
      go : judge_begin s x ≡ Ok tt → Stands (begins h x) (begun s x).lent
      go e = let w = within x (begin_went s x e).1 in up g done n (keeps_begin x w.0 w.1 r)

  stands_evict : (p : ℕ) → Stands (told h (Evict p) (evict_call s p).answer) (evict_call s p).lent
  unfolding evict_call told taken here
  stands_evict p = by_verdict Stands here (Evict p) [] (done_with (evicted s p) []) (judge_evict s p) go
    where
      go : judge_evict s p ≡ Ok tt → Stands h (evicted s p).lent
      go e = let w = evict_went s p e in up g done n (keeps_evict p w.1 w.2 r)

  stands_read : (buffer : List ℕ) (x p offset w : ℕ) → Stands (told h (Read buffer x p offset w) (read_call s buffer x p offset w).answer) (read_call s buffer x p offset w).lent
  unfolding read_call told taken here
  stands_read buffer x p offset w = by_verdict Stands here (Read buffer x p offset w) buffer (done_with (read_step s p) (read_bytes s p offset w buffer)) (judge_read s (length buffer) x p offset w) go
    where
      go : judge_read s (length buffer) x p offset w ≡ Ok tt → Stands h (read_step s p).lent
      go e = up g done n (keeps_read p (read_went s (length buffer) x p offset w e).1 r)

  stands_update : (x p offset w kind v : ℕ) → Stands (told h (Update x p offset w kind v) (update_call s x p offset w kind v).answer) (update_call s x p offset w kind v).lent
  unfolding update_call told taken updates here
  stands_update x p offset w kind v = by_verdict Stands here (Update x p offset w kind v) [] (done_with (updated s (row_of p offset w kind v x)) []) (judge_update s x p offset w kind v) go
    where
      go : judge_update s x p offset w kind v ≡ Ok tt → Stands (updates h (row_of p offset w kind v x)) (updated s (row_of p offset w kind v x)).lent
      go e =
          let a = update_went s x p offset w kind v e in
          let b = update_whose s x p offset w kind v e in
          let m = within x a.5 in
          let l : h.live x ≡ true = sym (live_read g done h s r x m.0 m.1) ∙ b.2 in
          up g done n
          (keeps_update x p offset w kind v a.1 m.0 m.1 b.0 a.2 b.1 a.6 l b.3 a.4 r)

  stands_commit : (x : ℕ) → Stands (told h (Commit x) (commit_call s x).answer) (commit_call s x).lent
  unfolding commit_call told taken commits here
  stands_commit x = by_verdict Stands here (Commit x) [] (done_with (committing s x) []) (judge_commit s x) go
    where
      go : judge_commit s x ≡ Ok tt → Stands (commits h x) (committing s x).lent
      go e =
          let a = commit_went s x e in
          let m = within x a.1 in
          up g (done ++ map body_of (owned s x)) n (keeps_commit x m.0 m.1 a.2 a.3 r)

  stands_abort : (x : ℕ) → Stands (told h (Abort x) (abort_call s x).answer) (abort_call s x).lent
  unfolding abort_call told taken aborts here
  stands_abort x = by_verdict Stands here (Abort x) [] (done_with (aborted s x) []) (judge_abort s x) go
    where
      go : judge_abort s x ≡ Ok tt → Stands (aborts h x) (aborted s x).lent
      go e = let m = within x (abort_went s x e).1 in up g done n (keeps_abort x m.0 m.1 r)

  stands_compact : (p min_del max_age : ℕ) → Stands (told h (Compact p min_del max_age) (compact_call s p min_del max_age).answer) (compact_call s p min_del max_age).lent
  unfolding compact_call told taken here
  stands_compact p min_del max_age = by_verdict Stands here (Compact p min_del max_age) [] (due_or (due s p min_del max_age) s (done_with (compacted s p) [])) (judge_compact s p min_del max_age) go
    where
      by_due : (b : Bool) → due s p min_del max_age ≡ b → p < pages_of s → Stands (told h (Compact p min_del max_age) (due_or b s (done_with (compacted s p) [])).answer) (due_or b s (done_with (compacted s p) [])).lent
      by_due true e m = up g done n (keeps_compact p min_del max_age m e r)
      by_due false e m = up g done n r

      go : judge_compact s p min_del max_age ≡ Ok tt → Stands (told h (Compact p min_del max_age) (due_or (due s p min_del max_age) s (done_with (compacted s p) [])).answer) (due_or (due s p min_del max_age) s (done_with (compacted s p) [])).lent
      go e = by_due (due s p min_del max_age) refl (compact_went s p min_del max_age e).1

  stands_close : Stands (told h Close (close_call s).answer) (close_call s).lent
  unfolding close_call told taken here
  stands_close = by_verdict Stands here Close [] (done_with (closed s) []) (judge_close s) (λ e. up g done n (keeps_close r))

  stands_checkpoint : (min_del max_age : ℕ) → Stands (told h (Checkpoint min_del max_age) (checkpoint_call s min_del max_age).answer) (checkpoint_call s min_del max_age).lent
  unfolding checkpoint_call told taken here
  stands_checkpoint min_del max_age = by_verdict Stands here (Checkpoint min_del max_age) [] (done_with (checkpointed min_del max_age s) []) (judge_checkpoint s min_del max_age) (λ e. up g done n (keeps_checkpoint min_del max_age r))

-- a restart, from a loss or without one
stands_restart : {h : Past} {s : Lent} → Stands h s → Stands (told h Restart (restart_call s).answer) (restart_call s).lent
unfolding restart_call told taken rises falls
stands_restart {h} {s} st = by_verdict Stands st Restart [] (done_with (restarted s) []) (judge_restart s) (λ e. go st)
  where
    go : Stands h s → Stands (rises h) (restarted s).lent
    go (up g done n r) = up g done refl (keeps_restart_up r)
    go (down g done n d) = up g done refl (keeps_restart d)

stands_call : {h : Past} {s : Lent} → h.down ≡ false → Stands h s → (c : Call) → Stands (told h c (outcome s c).answer) (outcome s c).lent
unfolding outcome
stands_call {h} {s} n (down g done m d) c = absurd (mathlib.Core.Bool.false≢true (sym n ∙ m))
stands_call {h} {s} n (up g done m r) c = go c
  where
    go : (c : Call) → Stands (told h c (outcome s c).answer) (outcome s c).lent
    go (Begin x) = stands_begin n r x
    go (Commit x) = stands_commit n r x
    go (Abort x) = stands_abort n r x
    go (Evict p) = stands_evict n r p
    go (Read buffer x p offset w) = stands_read n r buffer x p offset w
    go (Update x p offset w kind v) = stands_update n r x p offset w kind v
    go (Compact p min_del max_age) = stands_compact n r p min_del max_age
    go (Checkpoint min_del max_age) = stands_checkpoint n r min_del max_age
    go Close = stands_close n r
    go Restart = stands_restart (up g done m r)

stands_loss : {h : Past} {s : Lent} (l : Lost) → Fits s l → Stands h s → Stands (falls h) (after_loss s l)
unfolding falls
stands_loss l f (up g done n r) = down g done refl (keeps_loss l f r)
stands_loss l f (down g done n d) = down g done refl (keeps_loss_down l f d)

-- a format: refused, nothing changes; else a new history
stands_format : (s : Lent) (g : Params) (last : ℕ) → (format_call s g last).answer ≡ Done (record { reads = 0; writes = 0; logs = 0 }) → Stands (fresh g last s.durable.stored) (format_call s g last).lent
unfolding format_call fresh
stands_format s g last e = go (judge_format s g last) refl e
  where
    go : (v : Verdict) → judge_format s g last ≡ v → (settled v s [] (done_with (formatted s g last) [])).answer ≡ Done (record { reads = 0; writes = 0; logs = 0 }) → Stands (fresh g last s.durable.stored) (settled v s [] (done_with (formatted s g last) [])).lent
    go (Ok tt) f k = up (record { size = g.size; pages = g.pages; start = s.durable.stored; base = last }) [] refl (let w = format_went s g last f in format_right s g last w.3 w.0 w.2)
    go (Err why) f k = let z : ◌≡◌ {A = Bool} false true = cc in absurd (mathlib.Core.Bool.false≢true z)

stands_no_format : {h : Past} {s : Lent} → Stands h s → (g : Params) (last : ℕ) (why : Refusal) → (format_call s g last).answer ≡ Refused why → Stands h (format_call s g last).lent
unfolding format_call
stands_no_format {h} {s} st g last why e = go (judge_format s g last) e
  where
    go : (v : Verdict) → (settled v s [] (done_with (formatted s g last) [])).answer ≡ Refused why → Stands h (settled v s [] (done_with (formatted s g last) [])).lent
    go (Ok tt) k = let z : ◌≡◌ {A = Bool} false true = cc in absurd (mathlib.Core.Bool.false≢true z)
    go (Err r) k = st

-- the areas are as long after some steps as before
fits_same : {g : Ground} {done : List (List ℕ)} {h : Past} {s t : Lent} → Right g done h s → Right g done h t → t.durable.fixed ≡ s.durable.fixed → (l : Lost) → Fits s l → Fits t l
fits_same {g} {done} {h} {s} {t} r q e l f =
    let a = r.whole.areas in
    let b = q.whole.areas in
    record {
      tables = f.tables ∙ a.tables ∙ ap (λ (x : List ℕ). 35 + num 4 x 8 + num 4 x 4) (sym e) ∙ sym b.tables;
      online = f.online ∙ a.online ∙ ap (λ (x : List ℕ). 19 * num 4 x 12) (sym e) ∙ sym b.online;
      pool = f.pool ∙ a.pool ∙ ap (λ (x : List ℕ). num 4 x 0 * num 4 x 8) (sym e) ∙ sym b.pool;
    }

-- every run stands
pub run_stands : {h : Past} {s : Lent} → Run h s → Stands h s
unfolding falls
run_stands (format s g last e) = stands_format s g last e
run_stands (no_format r g last why e) = stands_no_format (run_stands r) g last why e
run_stands (call r n c) = stands_call n (run_stands r) c
run_stands (restart r) = stands_restart (run_stands r)
run_stands (loss r l f) = stands_loss l f (run_stands r)
run_stands (loss_inside {h} {s} r n min_del max_age j e m l f) = go (run_stands r)
  where
    go : Stands h s → Stands (falls h) (after_loss (after_steps min_del max_age j s) l)
    go (up g done k q) = down g done refl (keeps_loss l (fits_same q (keeps_steps min_del max_age j q) (fixed_steps min_del max_age j s) l f) (keeps_steps min_del max_age j q))
    go (down g done k d) = absurd (mathlib.Core.Bool.false≢true (sym n ∙ k))
