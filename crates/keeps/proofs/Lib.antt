-- Sound tables stay sound.
-- tests of rows, and soundness as clauses over what is read
pub mod Tests
pub mod Clauses
pub mod Durables
-- the steps
pub mod Fetching
pub mod Begins
pub mod Numbering
pub mod Commits
pub mod Compacts
pub mod Closes
-- the calls
pub mod Calls
-- what a checkpoint with min_del 1 leaves
pub mod Sweeps
