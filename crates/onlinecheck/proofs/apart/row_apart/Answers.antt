-- `onlinecheck::apart::row_apart` meets its contract: a row that is alone, one that is not the first of its page, and one that is.
use native.Mathlib.Omega.{arith}
use Rattle.onlinecheck.proofs.Rows.{page_at}
use Rattle.onlinecheck.proofs.Bytes.{pass_alone, pass_later, first_chain, pass_first}
use Rattle.onlinecheck.proofs.apart.row_apart.Goals as goal

pub returns-then-online-next : goal.returns-then-online-next
returns-then-online-next c =
    let a = c.args in
    pass_alone a.online.now a.heads.now a.after.now c.requires.4 a.i a.marks.now (omega arith) c.requires.5

pub bounds-heads-p : goal.bounds-heads-p
bounds-heads-p c =
    let a = c.args in
    omega (arith, page_at 1024 a.online.now a.i c.requires.1 c.requires.2)

pub returns-then-head-i : goal.returns-then-head-i
returns-then-head-i c =
    let a = c.args in
    pass_later a.online.now a.heads.now a.after.now c.requires.4 a.i _ _ a.marks.now c.requires.1 c.page_of-p.ensures.0 c.from-head.ensures c.if-head-i.true c.requires.5

pub chain_apart-requires : goal.chain_apart-requires
chain_apart-requires c =
    let a = c.args in
    let q = c.page_of-p in
    let e = q.ensures.0 in
    (c.requires.0, c.requires.1, c.requires.3, first_chain a.online.now a.heads.now a.after.now c.requires.4 a.i _ _ e (omega (arith, page_at 1024 a.online.now a.i c.requires.1 c.requires.2)) c.from-head.ensures c.if-head-i.false)

pub returns : goal.returns
returns c =
    let a = c.args in
    pass_first a.online.now a.heads.now a.after.now c.requires.4 a.i a.marks.now _ _ c.requires.1 c.requires.3 c.chain_apart.ensures.0 c.chain_apart.ensures.1 c.requires.5
