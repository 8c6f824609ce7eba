pub mod Cells
pub mod Grid
pub mod Few
