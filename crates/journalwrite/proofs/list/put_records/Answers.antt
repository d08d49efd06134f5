use Rattle.std.proofs.Common.{length, arith}
use Rattle.journal.proofs.Writes.{listed, page_small}
use Rattle.journalwrite.proofs.Lists.{wrote_none, wrote_all, wrote_room, wrote_turn}
use Rattle.journalwrite.proofs.list.put_records.Goals as goal

pub loop-i-init : goal.loop-i-init
loop-i-init c = wrote_none c.args.nonce c.args.size c.args.pages.now c.args.start c.args.list.now c.args.target.now c.requires.0

pub put_page-requires : goal.put_page-requires
put_page-requires c =
    let a = c.args in
    let l = c.loop-i in
    let h = c.loop-i-test.true in
    let k = listed (length a.pages.now) a.size a.list.now c.requires.4 l.i h in
    (wrote_room a.nonce a.size a.pages.now a.start a.list.now a.target.now c.requires.0 l.i l.target l.invariant h, page_small _ a.size _ (omega (arith, c.requires.1)) c.requires.3 k, c.requires.2, k)

pub loop-i-preserved : goal.loop-i-preserved
loop-i-preserved c =
    let a = c.args in
    let l = c.loop-i in
    let h = c.loop-i-test.true in
    wrote_turn a.nonce a.size a.pages.now a.start a.list.now a.target.now c.requires.0 l.i l.target l.invariant h _ (listed (length a.pages.now) a.size a.list.now c.requires.4 l.i h) c.put_page.ensures

pub returns : goal.returns
returns c =
    let a = c.args in
    let l = c.loop-i in
    wrote_all a.nonce a.size a.pages.now a.start a.list.now a.target.now c.requires.0 l.i l.target l.invariant c.loop-i-test.false
