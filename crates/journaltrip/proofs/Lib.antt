-- The theorem, and the laws on the way to it.
pub mod Reading
pub mod Pages
pub mod Trip
