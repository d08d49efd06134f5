-- `pagetable::frames_agree` meets its contract: the slots are the counts that the sentences name.
use Rattle.pagetable.proofs.Loops.{agree_same}
use Rattle.pagetable.proofs.frames_agree.Goals as goal

pub returns : goal.returns
returns c =
    let a = c.args in
    agree_same a.entries.now a.order.now c.tally-served.result c.tally-named.result a.frames _ _
    c.requires.2
    c.tally-served.ensures
    c.tally-named.ensures
    c.each_once.ensures
    c.each_named.ensures
