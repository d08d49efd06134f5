-- What the contracts of `waljudge` cite.
pub mod Pass
pub mod Judge
pub mod Cases
