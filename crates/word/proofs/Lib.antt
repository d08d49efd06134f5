-- The laws that callers' proofs cite.
pub mod Bigs
pub mod Laws
pub mod Puts
pub mod Tests
