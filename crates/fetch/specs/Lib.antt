-- What the contracts of `fetch` cite.
pub mod Post
