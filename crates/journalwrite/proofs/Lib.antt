-- The laws that the proofs of `journalwrite` cite.
pub mod Fills
pub mod Lists
