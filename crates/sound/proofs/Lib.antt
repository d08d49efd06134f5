-- What soundness gives to the calls.
pub mod Laws
