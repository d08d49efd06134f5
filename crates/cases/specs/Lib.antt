-- The cases of document 01, decided by computation on the definitions that the promises cite.
pub mod Play
pub mod Small
pub mod More
