-- Frames, page entries and the use order.
pub mod Seated
pub mod Counting
pub mod Places
pub mod Loops
