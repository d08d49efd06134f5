use Prim.Native.Nat.{◌+◌, ◌*◌, ◌≤◌}
use mathlib.Core.Path.{◌≡◌}
use mathlib.Core.List.{◌++◌}
use lib.ListN.{length, take, drop}
use Rattle.wal.specs.Written.{frames_bytes}
use Rattle.walwrite.specs.Image.{image_in}
use Rattle.walwrite.proofs.write_frames.Given as goal

abbrev pub invariant-loop-i : goal.invariant-loop-i
invariant-loop-i l = record {
  room : 32 + l.i * (24 + l.pages.size) ≤ length l.initial.target;
  kept : length l.target ≡ length l.initial.target;
  written : take (32 + l.i * (24 + l.pages.size)) l.target ++ frames_bytes l.h (image_in l.pages.size l.pages.stored.now l.pages.online.now) l.pages.count (drop l.i l.list) l.sums ≡ take 32 l.initial.target ++ frames_bytes l.h (image_in l.pages.size l.pages.stored.now l.pages.online.now) l.pages.count l.list l.h.sums;
  behind : drop (32 + l.i * (24 + l.pages.size)) l.target ≡ drop (32 + l.i * (24 + l.pages.size)) l.initial.target;
}
