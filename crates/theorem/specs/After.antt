-- What may follow on a history and its bytes, for the incident: any calls and losses, but no new format; and a claim under one number.
use Rattle.std.specs.Prelude.{ℕ, ◌+◌, ◌≤◌, ◌≡◌, Bool, true, false, eqb, Ok}
use Rattle.rules.specs.declared.Answer.TheVariants.{Done, Refused}
use Rattle.rules.specs.declared.Params.{Params}
use Rattle.rules.specs.declared.Counts.{Counts}
use Rattle.rules.specs.declared.Refusal.{Refusal}
use Rattle.rules.specs.Lent.{Lent, Lost, pages_of}
use Rattle.rules.specs.Calls.{begin_call, restart_call, format_call, judge_checkpoint}
use Rattle.history.specs.Past.{Past, falls}
use Rattle.history.specs.Run.{Call, Begin, Commit, Abort, Evict, Read, Update, Compact, Checkpoint, Close, Restart, outcome, told, Fits, after_loss, after_steps}

-- from h and s some calls and losses later, as in `Run`, with no format that is accepted
pub data After (h : Past) (s : Lent) : Past → Lent → Type 0 where
  here : After h s h s
  then_call : {k : Past} {t : Lent} → After h s k t → k.down ≡ false → (c : Call) → After h s (told k c (outcome t c).answer) (outcome t c).lent
  then_restart : {k : Past} {t : Lent} → After h s k t → After h s (told k Restart (restart_call t).answer) (restart_call t).lent
  then_loss : {k : Past} {t : Lent} → After h s k t → (l : Lost) → Fits t l → After h s (falls k) (after_loss t l)
  then_loss_inside : {k : Past} {t : Lent} → After h s k t → k.down ≡ false → (min_del max_age j : ℕ) → judge_checkpoint t min_del max_age ≡ Ok tt → j ≤ pages_of t + 1 → (l : Lost) → Fits t l → After h s (falls k) (after_loss (after_steps min_del max_age j t) l)
  then_no_format : {k : Past} {t : Lent} → After h s k t → (g : Params) (last : ℕ) (r : Refusal) → (format_call t g last).answer ≡ Refused r → After h s k (format_call t g last).lent

-- what may be called during a claim under the number x: updates under x, any reads, and evict, compact, close and checkpoint
unfoldable pub in_claim : ℕ → Call → Bool
in_claim x (Begin y) = false
in_claim x (Commit y) = false
in_claim x (Abort y) = false
in_claim x (Evict p) = true
in_claim x (Read buffer y p offset w) = true
in_claim x (Update y p offset w kind v) = eqb y x
in_claim x (Compact p min_del max_age) = true
in_claim x (Checkpoint min_del max_age) = true
in_claim x Close = true
in_claim x Restart = false

-- a claim: the number is given out by an accepted begin, then come calls with any arguments, accepted or refused
pub data Claim (x : ℕ) (h : Past) (s : Lent) : Past → Lent → Type 0 where
  begun : (n : Counts) → (begin_call s x).answer ≡ Done n → Claim x h s (told h (Begin x) (outcome s (Begin x)).answer) (outcome s (Begin x)).lent
  claims : {k : Past} {t : Lent} → Claim x h s k t → (c : Call) → in_claim x c ≡ true → Claim x h s (told k c (outcome t c).answer) (outcome t c).lent
