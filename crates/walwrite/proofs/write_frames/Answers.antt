use Prim.Native.Nat.{ℕ, ◌+◌, ◌*◌, ◌≤◌}
use native.Mathlib.Omega.{arith}
use mathlib.Core.Path.{◌≡◌, sym, ap, ◌∙◌}
use mathlib.Core.List.{List}
use lib.ListN.{length, drop}
use Rattle.wal.specs.Written.{commit_before}
use Rattle.walwrite.proofs.Laws.{room_turn, page_below, lent_frame, put_length, put_behind, commit_last, commit_other, frames_turn, frames_done}
use Rattle.walwrite.proofs.write_frames.Goals as goal
use Rattle.walwrite.proofs.write_frames.Goals.{then-i-n, else-i-n}

pub write_frame-sums-requires : goal.write_frame-sums-requires
write_frame-sums-requires c =
    let a = c.args in
    let w : ℕ = 24 + a.pages.now.size in
    let at : ℕ = 32 + c.loop-i.i * w in
    let r = room_turn _ _ w _ c.loop-i-test.true c.requires.0 in
    let k : at + w ≤ length c.loop-i.target = omega (arith, r.0, c.loop-i.invariant.kept) in
    (lent_frame c.loop-i.target at w k ∙ ap (λ (x : ℕ). 24 + x) (sym c.requires.1), c.requires.1, page_below a.list.now c.loop-i.i a.pages.now.count c.requires.2 c.loop-i-test.true)

pub loop-i-preserved : goal.loop-i-preserved
loop-i-preserved c =
    let a = c.args in
    let o = c.loop-i.invariant in
    let t : List ℕ = c.loop-i.target in
    let ys : List ℕ = c.write_frame-sums.new.f in
    let w : ℕ = 24 + a.pages.now.size in
    let at : ℕ = 32 + c.loop-i.i * w in
    let r = room_turn _ _ w _ c.loop-i-test.true c.requires.0 in
    let k : at + w ≤ length t = omega (arith, r.0, o.kept) in
    let n : length ys ≡ w = c.write_frame-sums.auto.f ∙ lent_frame t at w k in
    let e : c.if-i-n.commit ≡ commit_before a.pages.now.count (drop (c.loop-i.i + 1) a.list.now) =
    elim c.if-i-n.branch [
      | then-i-n w ↦ commit_last a.list.now c.loop-i.i _ _ w.if-i-n.true w.commit-is
      | else-i-n w ↦ commit_other a.list.now c.loop-i.i _ _ c.loop-i-test.true w.if-i-n.false w.commit-is
    ]
    in rw r.1 (record {
      room = r.0;
      kept = put_length t ys at w n k ∙ o.kept;
      written = frames_turn a.h _ a.pages.now.count c.loop-i.i at w _ a.list.now t ys _ c.loop-i.sums _ c.loop-i-test.true k n e c.write_frame-sums.ensures o.written;
      behind = put_behind t ys at w n k a.target.now o.behind;
    })

pub returns : goal.returns
returns c =
    let o = c.loop-i.invariant in
    let a = c.args in
    let at : ℕ = 32 + c.loop-i.i * (24 + a.pages.now.size) in
    let k : at ≤ length c.loop-i.target = omega (arith, o.room, o.kept) in
    let n : 32 ≤ length a.target.now = omega (arith, c.requires.0) in
    frames_done a.h _ a.pages.now.count c.loop-i.i at a.list.now c.loop-i.target a.target.now c.loop-i.sums a.h.sums c.loop-i-test.false k n o.written o.behind
