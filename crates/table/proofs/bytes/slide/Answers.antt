use native.Mathlib.Omega.{arith}
use Rattle.table.proofs.Moves.{slide_join, slide_most}
use borrow.Author.Rules.{rules}
use Rattle.table.proofs.bytes.slide.Goals as goal

pub loop-i-preserved : goal.loop-i-preserved
loop-i-preserved c =
    let a = c.args in
    let at = c.loop-i in
    let test = c.loop-i-test in
    (search rules, slide_join a.s.now at.s _ a.from a.to at.i 64 c.requires.0 (omega (arith, c.requires.1, test.true)) at.invariant.1 c.slide_block.ensures)

pub returns : goal.returns
returns c =
    let a = c.args in
    let at = c.loop-i in
    slide_most a.s.now at.s _ a.from a.to at.i a.n c.requires.0 c.requires.1 at.invariant.0 at.invariant.1 c.slide_bytes.ensures
