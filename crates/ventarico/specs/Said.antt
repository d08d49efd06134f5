-- What C is told and left: the reply to an outcome's answer, and its bytes.
use Rattle.std.specs.Prelude.{ℕ, ◌≡◌, Result, Ok, Err}
use Rattle.clerk.specs.declared.Clerk.{Clerk}
use Rattle.rules.specs.declared.Refusal.{Refusal}
use Rattle.rules.specs.declared.Answer.TheVariants.{Done}
use Rattle.rules.specs.declared.Reply.{Reply}
use Rattle.rules.specs.Answers.{code_of, reply_of}
use Rattle.rules.specs.Lent.{Lent}
use Rattle.rules.specs.Calls.{Outcome}

abbrev pub done_as : ℕ → ℕ → ℕ → Reply
done_as r w l = reply_of (Done (record { reads = r; writes = w; logs = l }))

-- the reply r and the lent bytes s are those of the outcome o
pub record Told (o : Outcome) (r : Reply) (s : Lent) : Type 0 where
  pub reply : r ≡ reply_of o.answer
  pub lent : s ≡ o.lent

-- a ruling of the clerk as C is told it: 0 and the clerk afterwards, or the refusal's number and the clerk as it was
abbrev pub Settled : Result Clerk Refusal → Clerk → ℕ → Clerk → Type 0
Settled (Ok after) before code c = (code ≡ 0) × (c ≡ after)
Settled (Err why) before code c = (code ≡ code_of why) × (c ≡ before)
