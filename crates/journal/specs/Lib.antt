-- What the contracts of the journal's crates cite: the bytes, playing, writing, the calls and their answers; a worked example.
pub mod Layout
pub mod Playing
pub mod Writing
pub mod Calls
pub mod Example
