-- The pass over the zones, and which arcs the rings have.
pub mod Passing
pub mod Following
