use Rattle.journalplay.proofs.Looks.{ahead_none, ahead_turn, seen_end}
use Rattle.journalplay.proofs.look.look.Goals as goal

pub loop-i-init : goal.loop-i-init
loop-i-init c = ahead_none _ _ _ _ _

pub returns : goal.returns
returns c = seen_end _ _ _ _ _ _ c.loop-i.invariant c.loop-i-test.false

pub loop-i-preserved : goal.loop-i-preserved
loop-i-preserved c = ahead_turn _ _ _ _ _ _ c.loop-i.invariant c.loop-i-test.true (cc) (cc)
