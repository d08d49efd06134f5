-- The laws that callers' proofs cite, and those of the loops.
pub mod Laws
pub mod Loops
