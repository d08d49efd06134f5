-- What the contracts of `checkpoint` cite.
pub mod Noted
pub mod Halfway
