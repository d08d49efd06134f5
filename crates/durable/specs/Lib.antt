-- What the contracts and laws of `durable` cite beside the rules.
pub mod Limits
pub mod Marks
