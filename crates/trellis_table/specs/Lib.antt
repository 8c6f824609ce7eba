-- The rows of all positions: `Rows` which counts each holds, and what rows and choices stand for.
pub mod Rows
