-- The first j steps of a checkpoint keep what is right, whichever j.
use Prim.Native.Nat.{ℕ, zero, suc, ◌≤◌, ◌<◌}
use native.Mathlib.Omega.{arith}
use mathlib.Core.Path.{◌≡◌, refl, sym, ◌∙◌, subst}
use mathlib.Core.Bool.{Bool, true, false, cond}
use mathlib.Core.List.{List}
use lib.Dec.{leb}
use borrow.Author.Tests.{leb-true}
use Rattle.word.specs.Word.{num}
use Rattle.rules.specs.Lent.{Lent, pages_of}
use Rattle.rules.specs.Steps.{left, due, compacted, compact_step, closed, after_pages, checkpointed}
use Rattle.rules.proofs.Kept.{fixed_step}
use Rattle.history.specs.Past.{Past}
use Rattle.history.specs.Run.{after_steps}
use Rattle.history.proofs.Right.{Ground, Right}
use Rattle.history.proofs.Compacts.{keeps_compact}
use Rattle.history.proofs.Closes.{keeps_close}

-- no step changes what format fixed
module _ (min_del max_age : ℕ) where
  fixed_after : (j : ℕ) (s : Lent) → (after_pages min_del max_age j s).lent.durable.fixed ≡ s.durable.fixed
  unfolding after_pages
  fixed_after zero s = refl
  fixed_after (suc j) s = fixed_step min_del max_age (after_pages min_del max_age j s).lent j ∙ fixed_after j s

  pub fixed_steps : (j : ℕ) (s : Lent) → (after_steps min_del max_age j s).durable.fixed ≡ s.durable.fixed
  unfolding after_steps checkpointed closed
  fixed_steps j s = go (leb j (pages_of s))
    where
      go : (b : Bool) → (cond b (after_pages min_del max_age j s).lent (checkpointed min_del max_age s).lent).durable.fixed ≡ s.durable.fixed
      go true = fixed_after j s
      go false = fixed_after (pages_of s) s

module _ {g : Ground} {done : List (List ℕ)} {h : Past} (min_del max_age : ℕ) where
  -- a compaction as a step: nothing changes where it is not due
  keeps_step : {s : Lent} (p : ℕ) → p < pages_of s → Right g done h s → Right g done h (compact_step min_del max_age s p).lent
  unfolding compact_step
  keeps_step {s} p m r = go (due s p min_del max_age) refl
    where
      go : (b : Bool) → due s p min_del max_age ≡ b → Right g done h (cond b (compacted s p) (left s 0 0 0)).lent
      go true e = keeps_compact p min_del max_age m e r
      go false e = r

  -- after the first j compactions
  pub keeps_pages : (j : ℕ) {s : Lent} → j ≤ pages_of s → Right g done h s → Right g done h (after_pages min_del max_age j s).lent
  unfolding after_pages
  keeps_pages zero m r = r
  keeps_pages (suc j) {s} m r = keeps_step j (subst (λ (f : List ℕ). j < num 4 f 4) (sym (fixed_after min_del max_age j s)) m) (keeps_pages j (omega arith) r)

  pub keeps_checkpoint : {s : Lent} → Right g done h s → Right g done h (checkpointed min_del max_age s).lent
  unfolding checkpointed
  keeps_checkpoint {s} r = keeps_close (keeps_pages (pages_of s) (omega arith) r)

  -- after the first j steps, whichever a loss cuts off
  pub keeps_steps : (j : ℕ) {s : Lent} → Right g done h s → Right g done h (after_steps min_del max_age j s)
  unfolding after_steps
  keeps_steps j {s} r = go (leb j (pages_of s)) refl
    where
      go : (b : Bool) → leb j (pages_of s) ≡ b → Right g done h (cond b (after_pages min_del max_age j s).lent (checkpointed min_del max_age s).lent)
      go true e = keeps_pages j (leb-true j (pages_of s) e) r
      go false e = keeps_checkpoint r
