-- `fetch::apply_in` meets its contract: the frame is lent on by itself and put back.
use Prim.Native.Nat.{ℕ, ◌+◌, ◌*◌, ◌-◌}
use native.Mathlib.Omega.{arith}
use mathlib.Core.Path.{◌≡◌, refl, ap, ◌∙◌}
use Rattle.record.specs.Part.{part}
use Rattle.record.specs.Record.{apply}
use Rattle.fetch.proofs.Laws.{mid_put}
use Rattle.fetch.proofs.apply_in.Goals as goal

pub returns : goal.returns
returns c =
    let a = c.args in
    let b = a.f.0 * a.size in
    let d : b + a.size - b ≡ a.size = omega arith in
    mid_put a.pool.now c.apply_row.new.g _ b a.size (b + a.size) refl
    (c.apply_row.ensures ∙ ap (λ (k : ℕ). apply a.row.now (part b k a.pool.now)) d)
