-- What a reader of the theorem must believe: the history that calls and answers tell, and how a store comes by its bytes.
pub mod Past
pub mod Committed
pub mod Run
pub mod Saying
pub mod Twins
