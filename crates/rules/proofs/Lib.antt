-- The laws that callers' proofs cite.
pub mod Verdicts
pub mod Went
pub mod Walks
pub mod Clauses
pub mod Ranges
pub mod Every
pub mod Tables
pub mod Extremes
pub mod Kept
pub mod Needed
