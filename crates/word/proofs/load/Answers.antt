use Rattle.std.proofs.Common.{arith, rules, ℕ, ◌+◌, ◌-◌, ◌*◌, ap, ◌∙◌}
use Rattle.word.proofs.Laws.{num_turn, below_turn, below_seven}
use Rattle.word.proofs.load.Goals as goal

pub overflow_mul-n : goal.overflow_mul-n
overflow_mul-n c = omega (arith, below_seven _ _ _ c.loop-i-test.true c.loop-i.auto.i c.requires.0 c.loop-i.invariant.1)

pub overflow_add-n : goal.overflow_add-n
overflow_add-n c = omega (arith, below_seven _ _ _ c.loop-i-test.true c.loop-i.auto.i c.requires.0 c.loop-i.invariant.1, c.type_inv.s (c.args.at + (c.loop-i.i - 1)))

pub loop-i-preserved : goal.loop-i-preserved
loop-i-preserved c = (
  ap (λ (b : ℕ). c.loop-i.n * 256 + b) c.from.ensures ∙ num_turn _ _ _ _ _ c.loop-i-test.true c.loop-i.auto.i c.loop-i.invariant.0,
  below_turn _ _ _ _ c.loop-i-test.true c.loop-i.auto.i (search rules) c.loop-i.invariant.1,
)
