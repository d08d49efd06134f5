-- `sum::checksum_of` meets its contract: the sum so far and what is left to sum make the checksum.
use Rattle.std.proofs.Common.{◌≡◌, ◌+◌, ◌-◌, ◌/◌, ◌%◌, ◌^◌, ◌<◌, ◌≤◌, length}
use Rattle.journal.specs.Layout.{spaced, checksum}
use Rattle.journal.proofs.sum.checksum_of.Given as goal

abbrev pub invariant-loop-at : goal.invariant-loop-at
invariant-loop-at l = (l.at ≤ length l.page) × (l.sum < 2 ^ 32) × ((l.sum + spaced ((l.at - 1) / 200) l.page l.at) % 2 ^ 32 ≡ checksum l.nonce (length l.page) l.page)

abbrev pub decreases-loop-at : goal.decreases-loop-at
decreases-loop-at l = l.at
