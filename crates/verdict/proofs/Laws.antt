-- The check before a call's own refusals: it refuses by itself, or leaves the verdict to them.
use Rattle.std.specs.Prelude.{◌≡◌, ℕ, ◌<◌, Bool, true, false, List, [], ◌∷◌, Ok, Err}
use Rattle.rules.specs.declared.Refusal.{Refusal}
use Rattle.rules.specs.Lent.{Lent}
use Rattle.std.proofs.Common.{ap}
use mathlib.Core.Bool.{not}
use Rattle.rules.specs.declared.Bad.TheVariants.{Number}
use Rattle.rules.specs.declared.Refusal.TheVariants.{Argument}
use Rattle.rules.specs.Calls.{Verdict, Test, verdict_of, refuse_if, unsound, commit_refusals, judge_commit}
use Rattle.rules.proofs.Verdicts.{refused}
use Rattle.rules.specs.Sound.{sound_durable}
use Rattle.rules.proofs.Ranges.{durable_sized, durable_logged, durable_log_records}
use Rattle.restart.specs.Enter.{Restartable}
use Rattle.clerk.proofs.Laws.{too_high}

-- the one test
alone_err : (b : Bool) (r why : Refusal) (v : Verdict) → Err why ≡ refuse_if b r (Ok tt) → Err why ≡ refuse_if b r v
unfolding refuse_if
alone_err true r why v e = e
alone_err false r why v e = cc

alone_ok : (b : Bool) (r : Refusal) (v w : Verdict) → Ok tt ≡ refuse_if b r (Ok tt) → v ≡ w → v ≡ refuse_if b r w
unfolding refuse_if
alone_ok true r v w e h = cc
alone_ok false r v w e h = h

pub checked_err : (s : Lent) (why : Refusal) (ts : List Test) → Err why ≡ verdict_of (unsound s ∷ []) → Err why ≡ verdict_of (unsound s ∷ ts)
unfolding verdict_of
checked_err s why ts e = alone_err _ _ why (verdict_of ts) e

pub checked_ok : (s : Lent) (v : Verdict) (ts : List Test) → Ok tt ≡ verdict_of (unsound s ∷ []) → v ≡ verdict_of ts → v ≡ verdict_of (unsound s ∷ ts)
unfolding verdict_of
checked_ok s v ts e h = alone_ok _ _ v (verdict_of ts) e h

-- a commit's number past 32 is refused before its rows are counted
pub commit_past : (s : Lent) (x : ℕ) → 32 < x → Ok tt ≡ verdict_of (unsound s ∷ []) → Err (Argument Number) ≡ judge_commit s x
unfolding verdict_of judge_commit commit_refusals
commit_past s x h e = alone_ok _ _ _ _ e (refused _ _ _ (ap not (too_high x h)))

-- a sound durable part is one that a restart can read
pub durable_restartable : (s : Lent) → sound_durable s ≡ true → Restartable s
durable_restartable s h =
    let logged = durable_logged s h in
    (durable_sized s h, logged.0, logged.1, durable_log_records s h)
