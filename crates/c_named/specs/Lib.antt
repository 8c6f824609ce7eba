-- What an exported search returns and writes.
pub mod Named
