-- The laws that the proofs of `journalplay` cite.
pub mod Looks
pub mod Restores
pub mod Judges
