-- What a reader must believe of the store: its answers, the lent bytes and their views, sound tables, the steps, the calls.
pub mod Answers
pub mod Lent
pub mod Areas
pub mod Sound
pub mod Shape
pub mod Steps
pub mod Calls
