-- The laws that callers' proofs cite.
pub mod Turns
pub mod Passes
