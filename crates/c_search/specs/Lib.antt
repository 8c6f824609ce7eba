-- What the exported search returns and writes.
pub mod Search
