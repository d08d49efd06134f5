-- What the door's promises cite.
pub mod Said
