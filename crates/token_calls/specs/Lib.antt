pub mod Tokens
pub mod Contexts
