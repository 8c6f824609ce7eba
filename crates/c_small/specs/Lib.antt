-- What the exported call of the small product returns and writes.
pub mod Small
