-- What the contracts of `compact` cite.
pub mod Planned
pub mod Counted
