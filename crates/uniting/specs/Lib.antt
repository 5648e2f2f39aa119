-- The rows of a block, and what uniting rows leaves.
pub mod Uniting
