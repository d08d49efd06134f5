-- The laws that callers' proofs cite.
pub mod Laws
pub mod Tells
pub mod Writes
