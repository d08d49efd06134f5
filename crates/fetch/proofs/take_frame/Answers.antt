-- `fetch::take_frame` meets its contract: the entries are lent on by themselves and put back.
use Prim.Native.Nat.{ℕ, ◌+◌, ◌-◌}
use native.Mathlib.Omega.{arith}
use mathlib.Core.Path.{◌≡◌, refl, ap, ◌∙◌}
use Rattle.record.specs.Part.{part}
use Rattle.rules.specs.Steps.{placed}
use Rattle.fetch.proofs.Laws.{mid_put}
use Rattle.fetch.proofs.take_frame.Goals as goal

pub returns : goal.returns
returns c =
    let a = c.args in
    let b = 35 + a.frames in
    let d : b + a.pages - b ≡ a.pages = omega arith in
    mid_put a.tables.now c.place.new.entries _ b a.pages (b + a.pages) refl
    (c.place.ensures ∙ ap (λ (k : ℕ). placed a.f.0 a.p.0 (part b k a.tables.now)) d)
