pub mod Within
pub mod Word
