pub mod Coded
pub mod Place
pub mod Plan
pub mod Tail
pub mod Best
