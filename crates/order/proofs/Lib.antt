-- The laws that callers' proofs cite.
pub mod Laws
pub mod Spare
