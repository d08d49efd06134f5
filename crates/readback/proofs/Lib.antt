-- What the lent bytes say after each step.
pub mod Seen
pub mod Tables
pub mod Lost
pub mod Pages
pub mod Marks
pub mod Log
