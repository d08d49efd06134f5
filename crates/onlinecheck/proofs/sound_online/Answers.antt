-- `onlinecheck::sound_online` meets its contract: the rows' clauses, then the others.
use borrow.Author.Rules.{rules}
use Prim.Native.Nat.{◌+◌, ◌-◌}
use lib.ListN.{length}
use mathlib.Core.Bool.{not}
use Rattle.rules.specs.Sound.{every, zeros}
use Rattle.onlinecheck.specs.Online.{in_log, past_stamp, online_test}
use Rattle.onlinecheck.proofs.Marks.{rows_give}
use Rattle.onlinecheck.proofs.Bytes.{place_give}
use Rattle.std.proofs.Common.{ap, sym, ◌∙◌}
use Rattle.onlinecheck.proofs.sound_online.Goals as goal

pub sound_ties-requires : goal.sound_ties-requires
sound_ties-requires c =
    let a = c.args in
    let l = a.online.now in
    let z = zeros a.behind.now in
    let y = every (past_stamp a.marks.now) l in
    let g = rows_give a.tables.now a.log.now a.size a.pages a.last (length a.log.now) l _ z y c.requires.0 c.requires.8 c.sound_rows.ensures (ap not c.if-sound_rows.true) in
    let f = place_give a.tables.now a.size a.pages a.last l _ z (every (in_log a.log.now (a.last - length a.log.now + 1)) l) y c.requires.6 c.sound_rows.ensures (ap not c.if-sound_rows.true) in
    (search rules, search rules, g.0, g.1, c.requires.7, f)

pub returns-then-sound_rows : goal.returns-then-sound_rows
unfolding online_test
returns-then-sound_rows c = rw (sym c.sound_rows.ensures ∙ c.if-sound_rows.true) c.sound_ties.ensures

pub returns-else-sound_rows : goal.returns-else-sound_rows
unfolding online_test
returns-else-sound_rows c = rw (sym c.sound_rows.ensures ∙ c.if-sound_rows.false) c.if-sound_rows.false
