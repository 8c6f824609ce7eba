mod Calls
pub mod Main
