-- A whole group in order: `Group` what a list answers, `Block` a block as the search gets it, `Run` what a list answers and leaves, `Demand` what that means and what the call promises.
pub mod Group
pub mod Block
pub mod Run
pub mod Demand
