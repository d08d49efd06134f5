-- What the contracts of inner functions of `restart` cite.
pub mod Enter
