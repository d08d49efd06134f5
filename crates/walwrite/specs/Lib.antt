-- What the contracts of `walwrite` cite.
pub mod Image
pub mod Write
