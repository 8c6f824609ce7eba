pub mod Priced
