-- The use of symbols: `Uses` what tokens use, `Tally` what is counted, and what the two calls answer and leave, `Counting` and `Changes` what the code goes by.
pub mod Uses
pub mod Tally
pub mod Counting
pub mod Changes
pub mod Checked
