-- The tokens of one block (document 02, ticket 5): what they are, how they are coded, what the writer writes and the reader reads. To be read in this order.
pub mod Tokens
pub mod Code
pub mod Reply
pub mod Writing
pub mod Reading
pub mod Outcome
pub mod Passed
pub mod Promise
