-- What is asked of the lent tables gives what can be read, and what is counted is what enters of them.
use Rattle.rules.specs.Areas.{areas_of}
use Rattle.restart.proofs.Laws.{readable, entering_all_by}
use Rattle.restart.proofs.count_entering.Goals as goal

pub read_records-requires : goal.read_records-requires
read_records-requires c = readable (areas_of c.args.lent.now) c.requires

pub returns : goal.returns
returns c = let e = entering_all_by (areas_of c.args.lent.now) in cc
