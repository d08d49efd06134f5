-- The laws that callers' proofs cite: of tests over rows, of the clauses, of marks, of chains, of bytes.
pub mod Rows
pub mod Laws
pub mod Marks
pub mod Chains
pub mod Bytes
