-- The beam: `Beam` the search and its outcome, `Demand` what that means, `Held` what the code holds on the way.
pub mod Beam
pub mod Demand
pub mod Held
