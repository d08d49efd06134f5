-- What the contracts of `order` cite.
pub mod Order
