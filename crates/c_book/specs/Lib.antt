-- What the exported price calls return and write.
pub mod Prices
