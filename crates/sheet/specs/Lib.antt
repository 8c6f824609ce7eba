pub mod Column
pub mod Line
