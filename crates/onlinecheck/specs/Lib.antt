-- What the contracts of `onlinecheck` cite.
pub mod Online
pub mod Marks
pub mod Bytes
