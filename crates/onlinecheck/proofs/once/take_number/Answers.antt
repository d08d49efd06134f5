-- `onlinecheck::once::take_number` meets its contract: the row's number is the one read, and its mark is where it belongs.
use Rattle.onlinecheck.proofs.Marks.{take_none, take_one}
use Rattle.onlinecheck.proofs.once.take_number.Goals as goal

pub returns-then-k-eq0 : goal.returns-then-k-eq0
returns-then-k-eq0 c =
    let a = c.args in
    take_none a.first.0 a.marks.now a.row.now _ c.number_of-k.ensures.0 c.if-k-eq0.true

pub returns : goal.returns
returns c =
    let a = c.args in
    take_one a.first.0 a.marks.now a.row.now _ c.number_of-k.ensures.0 c.if-k-eq0.false
