use Rattle.std.proofs.Common.{rules}
use Rattle.rules.specs.Areas.{areas_of}
use Rattle.sound.proofs.Laws.{sound_shaped}
use Rattle.verdict.proofs.check_sound.Goals as goal

pub returns-clause-shaped : goal.returns-clause-shaped
returns-clause-shaped c = sound_shaped (areas_of c.args.lent.now) (search rules)
