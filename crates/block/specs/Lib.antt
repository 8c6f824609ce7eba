-- What a search is given, and what its levels cost. To be read in this order.
pub mod Block
pub mod Data
pub mod Checks
pub mod Cost
pub mod Band
pub mod Choice
pub mod Answer
pub mod Outcome
