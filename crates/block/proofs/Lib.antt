-- What the definitions say, in small cases.
pub mod Examples
