use Rattle.wal.proofs.Puts.{header_put}
use Rattle.wal.proofs.write.write_header.Goals as goal

pub returns : goal.returns
returns c = header_put _ _ _ _ _ _ c.args.s.now _ _ _ _ _ c.magic_of.ensures c.put_pair.ensures c.put_pair-2.ensures c.put_pair-3.ensures c.sum-sums.ensures c.put_pair-4.ensures
