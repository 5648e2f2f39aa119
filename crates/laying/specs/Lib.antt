-- What the numbers of a plan are, and what laying out a plan leaves.
pub mod Figures
pub mod Layout
