pub mod Built
pub mod Either
