-- What the exported call over a group returns and writes.
pub mod Group
