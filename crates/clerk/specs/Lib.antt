-- What the contracts of `clerk` cite.
pub mod Rule
