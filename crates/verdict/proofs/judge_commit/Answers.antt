use Rattle.verdict.proofs.Laws.{commit_past}
use Rattle.verdict.proofs.judge_commit.Goals as goal

pub returns-then-x-gt32 : goal.returns-then-x-gt32
returns-then-x-gt32 c = commit_past _ _ c.if-x-gt32.true c.in_ok-check_sound.ensures.first
