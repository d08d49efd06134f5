-- The laws that callers' proofs cite.
pub mod Laws
pub mod Opens
pub mod Frames
pub mod Puts
