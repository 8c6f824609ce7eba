-- One call over the searches: `Outcome` what it answers and leaves, and what that means; `Accepted` what it goes by on the way.
pub mod Outcome
pub mod Accepted
pub mod Named
