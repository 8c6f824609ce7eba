-- The beam's paths: `Path` what a path is, `Step` how the paths behind a position become the paths from it on, `Held` what the code holds of them,
-- `Entries` what it holds on the way.
pub mod Path
pub mod Step
pub mod Held
pub mod Entries
