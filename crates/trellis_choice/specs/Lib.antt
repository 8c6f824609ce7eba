pub mod Locals
pub mod Chosen
