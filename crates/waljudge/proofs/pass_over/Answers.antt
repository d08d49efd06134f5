use Rattle.std.proofs.Common.{◌≡◌, sym, ap, ◌∙◌, arith, rules}
use Rattle.std.specs.Slice.Iter.{chunks_exact_rest}
use Rattle.waljudge.specs.Pass.{started}
use Rattle.waljudge.proofs.Turns.{rest_all, begun, frame_fits, rest_is, turn, turn_few, stop, done}
use Rattle.waljudge.proofs.pass_over.Goals as goal

pub loop-f-init : goal.loop-f-init
loop-f-init c =
    let d = c.default-a.ensures in
    let s : c.default-a.result ≡ started = λ i. record { frames = d.0 i; end = d.1.0 i; at = d.1.1.0 i; pending = d.1.1.1 i } in record {
      few = rw s (omega arith);
      within = search rules;
      size = search rules;
      rest = ap chunks_exact_rest c.into_iter-f-iterator.ensures.into_iter_gives ∙ c.chunks_exact-f-items.ensures.rest ∙ rest_all 32 c.args.file.now;
      left = begun _ _ _ _ s;
    }

pub loop-f-preserved : goal.loop-f-preserved
loop-f-preserved c =
    let i = c.loop-f.invariant in
    let y = c.in-Some.ensures.steps in
    let e = sym i.rest ∙ y.1.0 in
    let n = y.1.1 ∙ i.size in record {
      few = turn_few _ _ _ _ _ _ _ i.few (omega arith) c.with-a.ensures;
      within = frame_fits c.args.h _ _ _ _ e n i.within;
      size = y.0 ∙ i.size;
      rest = rest_is c.args.h _ _ _ _ e n;
      left = turn _ _ _ _ _ e n _ _ _ _ _ _ i.few i.within (sym c.look.ensures ∙ c.in-Some-look.is) c.with-a.ensures i.left;
    }

pub returns-in_default : goal.returns-in_default
returns-in_default c =
    let i = c.loop-f.invariant in
    let y = c.in-Some.ensures.steps in
    stop _ _ _ _ _ (sym i.rest ∙ y.1.0) (y.1.1 ∙ i.size) _ _ _ _ (sym c.look.ensures ∙ c.in_default.is) i.left

pub returns-in-None : goal.returns-in-None
returns-in-None c =
    let i = c.loop-f.invariant in
    let y = c.in-None.ensures.steps in
    done _ _ _ _ _ _ _ (rw (← i.rest, ← i.size) y.1.0) i.within i.left
