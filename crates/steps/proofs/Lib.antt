-- The proofs of `steps`, and the laws that they share.
pub mod Laws
