use Rattle.std.proofs.Common.{◌≡◌, ◌+◌, refl, sym, ap, ◌∙◌}
use Rattle.std.specs.Prelude.{Option}
use Rattle.compact.specs.declared.Compacted.{Compacted}
use Rattle.compact.specs.Counted.{reads_of, writes_of}
use Rattle.checkpoint.proofs.Laws.{none_more, after_none, reads_fit, writes_fit, after_more, noted_more}
use Rattle.checkpoint.proofs.compact_all.Goals as goal
use Rattle.checkpoint.proofs.compact_all.Goals.{in-Some, in_default}

pub loop-j-init : goal.loop-j-init
loop-j-init c =
    let p = c.requires in
    (c.load-pages.ensures.0, after_none _ _ _ p.0 p.1, p.2)

pub overflow_add-reads : goal.overflow_add-reads
overflow_add-reads c =
    let v = c.loop-j.invariant in
    record { fits = reads_fit _ _ _ _ _ _ _ v.1 _ _ v.0 c.loop-j-test.true c.requires.0 c.in-Some.ensures.reads }

pub overflow_add-writes : goal.overflow_add-writes
overflow_add-writes c =
    let v = c.loop-j.invariant in
    record { fits = writes_fit _ _ _ _ _ _ _ v.1 _ _ v.0 c.loop-j-test.true c.requires.0 c.in-Some.ensures.writes }

pub loop-j-preserved : goal.loop-j-preserved
loop-j-preserved c =
    let v = c.loop-j.invariant in
    let h = c.loop-j-test.true in
    let d = c.marked_step-step.result in
    let e = c.marked_step-step.ensures in
    let u : (c.match-step.reads ≡ c.loop-j.reads + reads_of d) × (c.match-step.writes ≡ c.loop-j.writes + writes_of d) =
    elim c.match-step.branch [
      | in-Some w ↦ (w.reads-is ∙ ap (λ (x : Option Compacted). c.loop-j.reads + reads_of x) (sym w.in-Some.is), w.writes-is ∙ ap (λ (x : Option Compacted). c.loop-j.writes + writes_of x) (sym w.in-Some.is))
      | in_default w ↦ (none_more reads_of _ _ _ refl w.in_default.is w.reads-is, none_more writes_of _ _ _ refl w.in_default.is w.writes-is)
    ]
    in
    (v.0, rw (u.0, u.1) (after_more _ _ _ _ _ _ _ v.1 _ _ _ _ v.0 h (e.reads, (e.writes, e.lent))), noted_more _ _ _ _ _ _ _ v.1 _ _ _ v.0 h v.2 e.lent)
