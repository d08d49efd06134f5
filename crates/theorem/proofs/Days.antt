-- An ordinary firmware meets every premise: whatever calls and losses its day brings, history and bytes are a run, and no restart is awaited.
use Rattle.std.specs.Prelude.{Ok, Err}
use Prim.Native.Nat.{ℕ, zero, suc, ◌+◌}
use mathlib.Core.Path.{◌≡◌, refl, sym, ap, ◌∙◌, subst}
use mathlib.Core.Bool.{Bool, true, false, cond}
use mathlib.Core.List.{List, [], ◌∷◌, ◌++◌}
use lib.ListN.{length, get_or, drop}
use lib.Dec.{leb}
use borrow.Author.Tests.{leb-true}
use Rattle.record.specs.Part.{part}
use Rattle.rules.specs.declared.Params.{Params}
use Rattle.rules.specs.declared.Answer.{Answer}
use Rattle.rules.specs.declared.Answer.TheVariants.{Done, Refused}
use Rattle.rules.specs.declared.Counts.{Counts}
use Rattle.rules.specs.declared.Refusal.{Refusal}
use Rattle.rules.specs.Calls.{Verdict}
use Rattle.rules.specs.Lent.{Lent, Lost, pages_of}
use Rattle.rules.specs.Steps.{formatted}
use Rattle.rules.specs.Calls.{Outcome, settled, done_with, read_call, judge_format, format_call, judge_checkpoint}
use Rattle.history.specs.Past.{Past, fresh, falls, rises, shown}
use Rattle.history.specs.Run.{Restart, outcome, taken, told, Fits, after_loss, after_steps, Run, format, no_format, call, restart, loss, loss_inside}
use Rattle.theorem.specs.Day.{First, Restarts, FormatsFirst, Event, Calls, Formats, Loses, LosesInside, bytes, filled, Store, called, formats, fallen, lost_once_more, or_restart, back, bytes_inside, anew, freshly, next, day}
use Rattle.theorem.proofs.Stands.{told_up}
use Rattle.theorem.proofs.Shows.{restart_accepted, read_shows}

-- a store that an honest use can come to, and that is up
abbrev Runs : Store → Type 0
Runs d = Run d.past d.lent × (d.past.down ≡ false)

bytes_length : (n : ℕ) (f : ℕ → ℕ) → length (bytes n f) ≡ n
unfolding bytes
bytes_length zero f = refl
bytes_length (suc n) f = ap suc (bytes_length n (λ (i : ℕ). f (suc i)))

-- the areas have their lengths
filled_fits : (s : Lent) (hold : ℕ → ℕ → ℕ) → Fits s (filled s hold)
unfolding filled
filled_fits s hold =
    record {
      tables = bytes_length (length s.lost.tables) (hold 0);
      online = bytes_length (length s.lost.online) (hold 1);
      pool = bytes_length (length s.lost.pool) (hold 2);
    }

-- a restart is accepted
restart_runs : (d : Store) → Run d.past d.lent → Runs (called d Restart)
unfolding called outcome told taken rises
restart_runs d r = (restart r, ap (λ (a : Answer). (told d.past Restart a).down) (restart_accepted r))

-- power that is lost again and again
again_runs : (d : Store) → Run d.past d.lent → (again : List (ℕ → ℕ → ℕ)) → Run (lost_once_more d again).past (lost_once_more d again).lent
unfolding lost_once_more fallen
again_runs d r [] = r
again_runs d r (hold ∷ again) = again_runs (fallen d.past d.lent (filled d.lent hold)) (loss r (filled d.lent hold) (filled_fits d.lent hold)) again

-- inside a checkpoint, or between calls where the checkpoint is refused or has no such step
inside_runs : {h : Past} {s : Lent} → Run h s → h.down ≡ false → (min_del max_age j : ℕ) (l : Lost) → Fits s l → Run (falls h) (after_loss (bytes_inside (judge_checkpoint s min_del max_age) min_del max_age j s) l)
unfolding bytes_inside
inside_runs {h} {s} r u min_del max_age j l f = go (judge_checkpoint s min_del max_age) refl
  where
    steps : judge_checkpoint s min_del max_age ≡ Ok tt → (b : Bool) → leb j (pages_of s + 1) ≡ b → Run (falls h) (after_loss (cond b (after_steps min_del max_age j s) s) l)
    steps e true k = loss_inside r u min_del max_age j e (leb-true j (pages_of s + 1) k) l f
    steps e false k = loss r l f

    go : (v : Verdict) → judge_checkpoint s min_del max_age ≡ v → Run (falls h) (after_loss (bytes_inside v min_del max_age j s) l)
    go (Ok tt) e = steps e (leb j (pages_of s + 1)) refl
    go (Err why) e = loss r l f

-- a format, accepted or refused: of a store that is up, or first when the power is back
module _ (d : Store) (g : Params) (last : ℕ) where
  by : Answer → Store
  by a = record { past = anew a d.past (fresh g last d.lent.durable.stored); lent = (format_call d.lent g last).lent }

  answered : (P : Answer → Store → Type 0) → ((format_call d.lent g last).answer ≡ Done (record { reads = 0; writes = 0; logs = 0 }) → P (Done (record { reads = 0; writes = 0; logs = 0 })) (by (Done (record { reads = 0; writes = 0; logs = 0 }))))
      → ((why : Refusal) → (format_call d.lent g last).answer ≡ Refused why → P (Refused why) (by (Refused why))) → P (format_call d.lent g last).answer (by (format_call d.lent g last).answer)
  unfolding format_call formatted
  answered P accepted declined = go (judge_format d.lent g last) refl
    where
      o : Verdict → Outcome
      o v = settled v d.lent [] (done_with (formatted d.lent g last) [])

      go : (v : Verdict) → judge_format d.lent g last ≡ v → P (format_call d.lent g last).answer (by (format_call d.lent g last).answer)
      go (Ok tt) e =
          let f : (format_call d.lent g last).answer ≡ Done (record { reads = 0; writes = 0; logs = 0 }) = ap (λ (v : Verdict). (o v).answer) e in
          subst (λ (a : Answer). P a (by a)) (sym f) (accepted f)
      go (Err why) e =
          let f : (format_call d.lent g last).answer ≡ Refused why = ap (λ (v : Verdict). (o v).answer) e in
          subst (λ (a : Answer). P a (by a)) (sym f) (declined why f)

  format_runs : Runs d → Runs (formats d g last)
  unfolding formats fresh anew by
  format_runs r = answered (λ (a : Answer) (t : Store). Runs t) (λ f. (format d.lent g last f, refl)) (λ why f. (no_format r.0 g last why f, r.1))

  first_format_runs : Run d.past d.lent → Runs (or_restart (format_call d.lent g last).answer (formats d g last))
  unfolding formats or_restart fresh anew by
  first_format_runs r = answered (λ (a : Answer) (t : Store). Runs (or_restart a t)) (λ f. (format d.lent g last f, refl)) (λ why f. restart_runs (by (Refused why)) (no_format r g last why f))

back_runs : (d : Store) → Run d.past d.lent → (first : First) → Runs (back d first)
unfolding back
back_runs d r Restarts = restart_runs d r
back_runs d r (FormatsFirst g last) = first_format_runs d g last r

-- after any event
next_runs : (d : Store) → Runs d → (e : Event) → Runs (next d e)
unfolding next called fallen
next_runs d r (Calls c) = (call r.0 r.1 c, told_up d.past c (outcome d.lent c).answer r.1)
next_runs d r (Formats g last) = format_runs d g last r
next_runs d r (Loses hold again first) =
    let l : Lost = filled d.lent hold in
    let t : Store = fallen d.past d.lent l in
    back_runs (lost_once_more t again) (again_runs t (loss r.0 l (filled_fits d.lent hold)) again) first
next_runs d r (LosesInside min_del max_age j hold again first) =
    let l : Lost = filled d.lent hold in
    let t : Store = fallen d.past (bytes_inside (judge_checkpoint d.lent min_del max_age) min_del max_age j d.lent) l in
    back_runs (lost_once_more t again) (again_runs t (inside_runs r.0 r.1 min_del max_age j l (filled_fits d.lent hold)) again) first

-- whatever the day brings, it is a run, and no restart is awaited at its end
pub day_runs : (d : Store) → Run d.past d.lent → d.past.down ≡ false → (es : List Event) → Run (day d es).past (day d es).lent × ((day d es).past.down ≡ false)
unfolding day
day_runs d r u [] = (r, u)
day_runs d r u (e ∷ es) = let q : Runs (next d e) = next_runs d (r, u) e in day_runs (next d e) q.0 q.1 es

-- from an accepted format on, of any bytes at all
module _ (s : Lent) (g : Params) (last : ℕ) (e : (format_call s g last).answer ≡ Done (record { reads = 0; writes = 0; logs = 0 })) (es : List Event) where
  -- the store at the day's end
  abbrev pub evening : Store
  evening = day (freshly s g last) es

  pub first_day : Run evening.past evening.lent × (evening.past.down ≡ false)
  unfolding fresh
  first_day = day_runs (freshly s g last) (format s g last e) refl es

  -- so a read that is accepted shows what the calls and answers of the day tell, and nothing is asked but the accepted format
  pub day_reads : (buffer : List ℕ) (x p offset w : ℕ) (c : Counts) → (read_call evening.lent buffer x p offset w).answer ≡ Done c → (read_call evening.lent buffer x p offset w).buffer ≡ part offset w (shown evening.past x p) ++ drop w buffer
  day_reads buffer x p offset w c f = read_shows first_day.0 first_day.1 buffer x p offset w c f

-- no bytes are left out: the lost areas may hold any that have their lengths
bytes_all : (l : List ℕ) → bytes (length l) (λ (i : ℕ). get_or l i 0) ≡ l
unfolding bytes
bytes_all [] = refl
bytes_all (x ∷ l) = ap (λ (k : List ℕ). x ∷ k) (bytes_all l)

bytes_any : (l : List ℕ) (n : ℕ) → length l ≡ n → bytes n (λ (i : ℕ). get_or l i 0) ≡ l
bytes_any l n e = ap (λ (k : ℕ). bytes k (λ (i : ℕ). get_or l i 0)) (sym e) ∙ bytes_all l

-- the bytes of given areas, by area and place
unfoldable pub holding : Lost → ℕ → ℕ → ℕ
holding l zero i = get_or l.tables i 0
holding l (suc zero) i = get_or l.online i 0
holding l (suc (suc a)) i = get_or l.pool i 0

pub any_bytes : (s : Lent) (l : Lost) → Fits s l → filled s (holding l) ≡ l
unfolding filled holding
any_bytes s l f =
    λ i. record {
      tables = bytes_any l.tables (length s.lost.tables) f.tables i;
      online = bytes_any l.online (length s.lost.online) f.online i;
      pool = bytes_any l.pool (length s.lost.pool) f.pool i;
    }
