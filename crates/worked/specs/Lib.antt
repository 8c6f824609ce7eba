-- Small search problems and what is answered to them: `Cases` the books, blocks and windows, `Errors` plausible errors in reading document 01, `Rows` the examples.
pub mod Cases
pub mod Errors
pub mod Rows
