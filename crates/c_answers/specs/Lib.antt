-- How the exported calls answer: `Parts` their scalars as records, `Told` an answer as a code and variables.
pub mod Parts
pub mod Told
