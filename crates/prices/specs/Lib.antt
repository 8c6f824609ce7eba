pub mod Book
pub mod Checks
pub mod Contents
