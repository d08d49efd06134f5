-- Demand 3's two stores: formatted alike but for their table sizes, and driven side by side with the same transaction calls. docs/RULES.md 10.
-- Each keeps house by itself: what it evicts, compacts and closes, and when, is its own.
use Rattle.std.specs.Prelude.{ℕ, ◌+◌, ◌≤◌, ◌≡◌, Bool, true, false, ◌||◌, eqb, Ok}
use Rattle.rules.specs.declared.Params.{Params}
use Rattle.rules.specs.declared.Counts.{Counts}
use Rattle.rules.specs.declared.Refusal.{Refusal}
use Rattle.rules.specs.declared.Answer.{Answer}
use Rattle.rules.specs.declared.Answer.TheVariants.{Done, NotDue, Refused}
use Rattle.rules.specs.Answers.{code_of}
use Rattle.rules.specs.Lent.{Lent, Lost, pages_of}
use Rattle.rules.specs.Calls.{restart_call, format_call, judge_checkpoint}
use Rattle.history.specs.Past.{Past, fresh, falls}
use Rattle.history.specs.Run.{Call, Begin, Commit, Abort, Evict, Read, Update, Compact, Checkpoint, Close, Restart, outcome, told, Fits, after_loss, after_steps}

-- begin, read, update, commit and abort
unfoldable pub transaction : Call → Bool
transaction (Begin x) = true
transaction (Commit x) = true
transaction (Abort x) = true
transaction (Evict p) = false
transaction (Read buffer x p offset w) = true
transaction (Update x p offset w kind v) = true
transaction (Compact p min_del max_age) = false
transaction (Checkpoint min_del max_age) = false
transaction Close = false
transaction Restart = false

-- evict, compact, close and checkpoint
unfoldable pub upkeep : Call → Bool
upkeep (Begin x) = false
upkeep (Commit x) = false
upkeep (Abort x) = false
upkeep (Evict p) = true
upkeep (Read buffer x p offset w) = false
upkeep (Update x p offset w kind v) = false
upkeep (Compact p min_del max_age) = true
upkeep (Checkpoint min_del max_age) = true
upkeep Close = true
upkeep Restart = false

-- refusals 7 and 8
unfoldable pub is_full : Refusal → Bool
is_full r = eqb (code_of r) 7 || eqb (code_of r) 8

unfoldable pub full : Answer → Bool
full (Done counts) = false
full NotDue = false
full (Refused r) = is_full r

-- the same answer, counts apart
pub data Agree : Answer → Answer → Type 0 where
  acted : (a b : Counts) → Agree (Done a) (Done b)
  not_due : Agree NotDue NotDue
  refused : (r : Refusal) → Agree (Refused r) (Refused r)

-- what one store may do alone: upkeep with any arguments, a format that is refused, and, while both await a restart, lose power once more
pub data Aside (h : Past) (s : Lent) : Lent → Type 0 where
  keeping : h.down ≡ false → (c : Call) → upkeep c ≡ true → Aside h s (outcome s c).lent
  not_formatted : (g : Params) (last : ℕ) (r : Refusal) → (format_call s g last).answer ≡ Refused r → Aside h s (format_call s g last).lent
  lost_again : h.down ≡ true → (l : Lost) → Fits s l → Aside h s (after_loss s l)

-- a power loss of one store: between calls, or inside a checkpoint of its own
pub data Loses (h : Past) (s : Lent) : Lent → Type 0 where
  between_calls : (l : Lost) → Fits s l → Loses h s (after_loss s l)
  inside : h.down ≡ false → (min_del max_age j : ℕ) → judge_checkpoint s min_del max_age ≡ Ok tt → j ≤ pages_of s + 1 → (l : Lost) → Fits s l → Loses h s (after_loss (after_steps min_del max_age j s) l)

-- two stores with one history, neither of which has said 7 or 8 to a transaction call
pub data Twins : Past → Lent → Lent → Type 0 where
  -- equal starting pages and L; frames, online table and log may differ in size
  formats : (s₁ s₂ : Lent) (g₁ g₂ : Params) (last : ℕ) → g₁.size ≡ g₂.size → g₁.pages ≡ g₂.pages → s₁.durable.stored ≡ s₂.durable.stored
      → (format_call s₁ g₁ last).answer ≡ Done (record { reads = 0; writes = 0; logs = 0 })
      → (format_call s₂ g₂ last).answer ≡ Done (record { reads = 0; writes = 0; logs = 0 })
      → Twins (fresh g₁ last s₁.durable.stored) (format_call s₁ g₁ last).lent (format_call s₂ g₂ last).lent
  -- a transaction call, accepted or refused
  both : {h : Past} {s₁ s₂ : Lent} → Twins h s₁ s₂ → h.down ≡ false → (c : Call) → transaction c ≡ true → full (outcome s₁ c).answer ≡ false → full (outcome s₂ c).answer ≡ false
      → Twins (told h c (outcome s₁ c).answer) (outcome s₁ c).lent (outcome s₂ c).lent
  first : {h : Past} {s₁ s₂ t : Lent} → Twins h s₁ s₂ → Aside h s₁ t → Twins h t s₂
  second : {h : Past} {s₁ s₂ t : Lent} → Twins h s₁ s₂ → Aside h s₂ t → Twins h s₁ t
  losses : {h : Past} {s₁ s₂ t₁ t₂ : Lent} → Twins h s₁ s₂ → Loses h s₁ t₁ → Loses h s₂ t₂ → Twins (falls h) t₁ t₂
  restarts : {h : Past} {s₁ s₂ : Lent} → Twins h s₁ s₂ → Twins (told h Restart (restart_call s₁).answer) (restart_call s₁).lent (restart_call s₂).lent
