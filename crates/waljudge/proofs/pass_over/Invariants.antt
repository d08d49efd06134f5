use Prim.Native.Nat.{◌+◌, ◌-◌, ◌≤◌, ◌<◌}
use mathlib.Core.Path.{◌≡◌}
use lib.ListN.{length, drop}
use Rattle.std.specs.Slice.Iter.{chunks_exact_rest, chunks_exact_size}
use Rattle.wal.specs.Layout.{frames_from, valid_frames}
use Rattle.waljudge.specs.Pass.{started, passed}
use Rattle.waljudge.proofs.pass_over.Given as goal

abbrev pub invariant-loop-f : goal.invariant-loop-f
invariant-loop-f l = record {
  few : l.a.frames < l.at;
  within : l.at ≤ length l.file;
  size : chunks_exact_size l.f-iterator ≡ 24 + l.h.size;
  rest : chunks_exact_rest l.f-iterator ≡ drop l.at l.file;
  left : passed l.page l.h.size (frames_from l.h l.file (length l.file - l.a.frames) l.at l.sums) l.a ≡ passed l.page l.h.size (valid_frames l.h l.file) started;
}
