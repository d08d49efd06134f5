-- The theorem, a part a file.
-- every run stands on the invariant
pub mod Stands
-- the sentences of demand 3: of one store, of two, of a number given out again
pub mod Shows
pub mod Twins
pub mod Reissue
-- README's advice on a full table or log, of any sound tables
pub mod Room
-- and said of what C has: at a door, and over a firmware's days
pub mod Doors
pub mod Days
