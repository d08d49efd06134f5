-- What the readers of the lent areas promise.
pub mod Read
