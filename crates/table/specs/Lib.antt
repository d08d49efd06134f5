-- What the contracts of `table` cite.
pub mod Stays
pub mod Before
pub mod Seen
pub mod Marks
