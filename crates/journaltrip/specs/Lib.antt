-- What the theorem says.
pub mod Trip
