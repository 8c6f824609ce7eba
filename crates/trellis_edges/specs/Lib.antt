-- A row that is worked out edge by edge.
pub mod Edges
