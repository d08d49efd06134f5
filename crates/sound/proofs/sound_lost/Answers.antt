-- `sound::sound_lost` meets its contract: the parameters are those that the durable part was checked with.
use native.Mathlib.Omega.{arith}
use mathlib.Core.Path.{◌∙◌}
use Rattle.rules.specs.Areas.{areas_of}
use Rattle.rules.proofs.Ranges.{durable_sized, durable_logged}
use Rattle.sound.proofs.Laws.{lost_is}
use Rattle.sound.proofs.sound_lost.Goals as goal

pub params_of-requires : goal.params_of-requires
params_of-requires c = (durable_sized (areas_of c.args.lent.now) c.requires).fixed

pub lost_at-requires : goal.lost_at-requires
lost_at-requires c = omega (arith, c.params_of.ensures, durable_sized (areas_of c.args.lent.now) c.requires, durable_logged (areas_of c.args.lent.now) c.requires)

pub returns : goal.returns
returns c =
    (rw (c.params_of.ensures.size, c.params_of.ensures.pages, c.params_of.ensures.frames, c.params_of.ensures.online) at c.lost_at.ensures)
    ∙ lost_is (areas_of c.args.lent.now)
