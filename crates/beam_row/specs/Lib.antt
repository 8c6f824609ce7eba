-- One position of the beam: `Held` what a step is worked out from and what it leaves, `Entries` what the code holds while the ways are tried.
pub mod Held
pub mod Entries
