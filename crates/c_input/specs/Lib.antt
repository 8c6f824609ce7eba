-- What the exported call returns and writes.
pub mod Input
