-- Laws of the tests.
pub mod Laws
