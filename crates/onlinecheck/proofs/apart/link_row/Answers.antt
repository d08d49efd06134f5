-- `onlinecheck::apart::link_row` meets its contract: the row's owner and page are those read.
use Rattle.onlinecheck.proofs.Chains.{link_none, link_one}
use Rattle.onlinecheck.proofs.apart.link_row.Goals as goal

pub returns-then-x-eq0 : goal.returns-then-x-eq0
returns-then-x-eq0 c =
    let a = c.args in
    link_none a.heads.now a.after.now a.row.now a.i _ c.owner_of-x.ensures c.if-x-eq0.true

pub returns : goal.returns
returns c =
    let a = c.args in
    link_one a.heads.now a.after.now a.row.now a.i _ _ c.owner_of-x.ensures c.if-x-eq0.false c.page_of-p.ensures.0
