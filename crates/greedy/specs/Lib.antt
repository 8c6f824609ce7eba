-- The greedy search: `Greedy` the search and its outcome, `Reading` what its parts go by.
pub mod Greedy
pub mod Reading
