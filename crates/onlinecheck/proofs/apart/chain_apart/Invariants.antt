-- `onlinecheck::apart::chain_apart` meets its contract: the rows left of the chain decide as all of the page do.
use Rattle.std.proofs.Common.{◌*◌, ◌-◌, [], length, get_or}
use Rattle.record.specs.Rows.{keep}
use Rattle.record.specs.Record.{page_of}
use Rattle.onlinecheck.specs.Bytes.{open_on, free_rows, with_rows}
use Rattle.onlinecheck.proofs.Chains.{Walk}
use Rattle.onlinecheck.proofs.apart.chain_apart.Given as goal

abbrev pub invariant-loop-row : goal.invariant-loop-row
invariant-loop-row l = Walk l.online l.after (l.i * 64) l.j l.marks (free_rows (l.i * 64) l.initial.marks (keep (open_on (page_of (get_or l.online l.i []))) l.online)) (with_rows (l.i * 64) l.initial.marks (keep (open_on (page_of (get_or l.online l.i []))) l.online))

abbrev pub decreases-loop-row : goal.decreases-loop-row
decreases-loop-row l = length l.online - l.j
