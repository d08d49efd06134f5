-- `word::store` meets its contract: what is still to be written is `put` from here.
use Rattle.std.proofs.Common.{◌≡◌, ◌+◌, ◌-◌}
use Rattle.word.specs.Word.{put}
use Rattle.word.proofs.store.Given as goal

abbrev pub invariant-loop-i : goal.invariant-loop-i
invariant-loop-i l = put (l.w - l.i) l.s (l.at + l.i) l.x ≡ put l.w l.initial.s l.at l.v
