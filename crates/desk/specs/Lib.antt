-- What the statements of `desk` cite.
pub mod Desk
