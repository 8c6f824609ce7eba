-- The working room as one value.
pub mod Lending
