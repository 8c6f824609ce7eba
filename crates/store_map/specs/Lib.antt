pub mod Map
pub mod Store
