-- What the contracts of `record` cite: parts of a list, rows of a table, a record's fields and its meaning.
pub mod Part
pub mod Rows
pub mod Record
