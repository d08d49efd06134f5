-- What the contracts of `wal` cite: the layout of docs/WAL.md as definitions.
pub mod Sum
pub mod Layout
pub mod Written
