use native.Mathlib.Omega.{arith}
use mathlib.Core.Path.{ap, ◌∙◌}
use Rattle.sound.proofs.Laws.{sound_shaped}
use Rattle.walwrite.specs.Write.{may_write}
use Rattle.walwrite.proofs.Laws.{judge_unsound, judge_sound}
use mathlib.Core.Bool.{not}
use Rattle.std.proofs.Common.{Err}
use Rattle.std.proofs.Common.{sym}
use Rattle.walwrite.proofs.judge_write.Goals as goal

pub returns-then-not-is_sound : goal.returns-then-not-is_sound
returns-then-not-is_sound c = ap Err c.into.ensures ∙ judge_unsound _ _ _ _ _ c.is_sound.ensures (ap not c.if-not-is_sound.true)

pub params_of-given-requires : goal.params_of-given-requires
params_of-given-requires c = (sound_shaped _ (sym c.is_sound.ensures ∙ c.if-not-is_sound.false)).sized.fixed

pub overflow_cast-given : goal.overflow_cast-given
overflow_cast-given c = omega (arith, (sound_shaped _ (sym c.is_sound.ensures ∙ c.if-not-is_sound.false)).sized.pages, c.params_of-given.ensures.pages)

pub may_write-requires : goal.may_write-requires
may_write-requires c = omega (arith, (sound_shaped _ (sym c.is_sound.ensures ∙ c.if-not-is_sound.false)).sized.size, c.params_of-given.ensures.size)

pub returns : goal.returns
returns c = let p = c.params_of-given.ensures in
    let a = c.args in
    judge_sound _ _ _ _ _ _ c.is_sound.ensures (ap not c.if-not-is_sound.false) (c.may_write.ensures ∙ (λ i. may_write (p.size i) (p.pages i) a.list.now a.room a.order))
