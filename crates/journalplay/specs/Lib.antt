-- What the inner contracts of `journalplay` cite.
pub mod Seen
