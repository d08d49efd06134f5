-- What the contracts of `pagetable` cite: the test of the tables area, and counts by frame.
pub mod Test
pub mod Tally
