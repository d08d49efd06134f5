-- The laws that callers' proofs cite.
pub mod Laws
pub mod Fields
pub mod Rows
pub mod Changes
pub mod Parts
pub mod Listed
