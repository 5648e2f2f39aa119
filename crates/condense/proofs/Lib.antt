-- Laws of the arcs between components, and of the two sweeps that arrange them.
pub mod ArcLaws
pub mod Sweeps
pub mod Rows
pub mod RowLaws
