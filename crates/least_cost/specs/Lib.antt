-- What a choice of levels costs, and the recursion that finds a least one: `Position` what a position offers, `Choice` what a choice is and costs, `Search` the recursion, `Factored` a quicker way through one step of it.
pub mod Position
pub mod Choice
pub mod Search
pub mod Factored
