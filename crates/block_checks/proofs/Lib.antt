mod Sides
pub mod Laws
pub mod Reading
mod Returns
