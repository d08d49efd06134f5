use Rattle.wal.proofs.Puts.{frame_put}
use Rattle.wal.proofs.write.write_fields.Goals as goal

pub returns : goal.returns
returns c = frame_put _ _ _ _ _ c.args.f.now _ _ _ c.put_pair.ensures c.put_pair-2.ensures c.frame_sums-after.ensures c.put_pair-3.ensures
