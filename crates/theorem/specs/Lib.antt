-- What a reader of the theorem's last parts must believe: what C hears, what may follow on a store, and what an ordinary firmware does.
pub mod Heard
pub mod After
pub mod Day
