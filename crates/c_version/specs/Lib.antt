-- Which version of the library this is.
pub mod Version
