-- The book, a chapter a file, each on those before it.
-- the invariant, and how a step comes to it
pub mod Right
pub mod Settle
-- what follows from it: tests of rows, the history's own part, soundness, what calls are told
pub mod Tested
pub mod Facts
pub mod Pasts
pub mod Soundly
pub mod Known
pub mod Saying
-- a chapter a step, and what they share: the transaction calls
pub mod Carried
pub mod Begins
pub mod Fetches
pub mod CommitDurable
pub mod Commits
pub mod Aborts
-- the checkpoint
pub mod Folding
pub mod Restamped
pub mod Compacts
pub mod Least
pub mod Closes
pub mod Checkpoints
-- loss, restart and format
pub mod Restarts
pub mod Formats
-- what stands whatever is called later
pub mod Incident
