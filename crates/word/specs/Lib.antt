-- What the contracts of `word` cite.
pub mod Word
