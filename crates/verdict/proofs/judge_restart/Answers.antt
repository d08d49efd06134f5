use Rattle.std.proofs.Common.{rules}
use Rattle.rules.specs.Areas.{areas_of}
use Rattle.verdict.proofs.Laws.{durable_restartable}
use Rattle.verdict.proofs.judge_restart.Goals as goal

pub params_of-given-requires : goal.params_of-given-requires
params_of-given-requires c = (durable_restartable (areas_of c.args.lent.now) (search rules)).0.fixed

pub count_entering-k-requires : goal.count_entering-k-requires
count_entering-k-requires c = durable_restartable (areas_of c.args.lent.now) (search rules)
