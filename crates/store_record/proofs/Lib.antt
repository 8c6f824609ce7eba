pub mod Placed
pub mod Runs
pub mod Headed
pub mod Order
pub mod Marks
