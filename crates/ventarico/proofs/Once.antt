-- Any two outcomes that a door's promise allows are equal: the reply and every lent byte; of read the buffer too. Each exported function's `ensures` is
-- `Told` of its call at the bytes at entry and the arguments, so the law serves them all.
use Prim.Native.Nat.{ℕ}
use mathlib.Core.Path.{◌≡◌, sym, ◌∙◌}
use mathlib.Core.List.{List}
use Rattle.rules.specs.declared.Reply.{Reply}
use Rattle.rules.specs.Lent.{Lent}
use Rattle.rules.specs.Calls.{Outcome}
use Rattle.ventarico.specs.Said.{Told}

pub told_once : (o : Outcome) (r₁ r₂ : Reply) (s₁ s₂ : Lent) → Told o r₁ s₁ → Told o r₂ s₂ → (r₁ ≡ r₂) × (s₁ ≡ s₂)
told_once o r₁ r₂ s₁ s₂ a b = (a.reply ∙ sym b.reply, a.lent ∙ sym b.lent)

pub buffer_once : (o : Outcome) (b₁ b₂ : List ℕ) → b₁ ≡ o.buffer → b₂ ≡ o.buffer → b₁ ≡ b₂
buffer_once o b₁ b₂ a b = a ∙ sym b
