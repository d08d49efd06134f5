-- The laws that callers' proofs cite.
pub mod Laws
pub mod Moves
pub mod Turns
pub mod Surveys
pub mod Marks
