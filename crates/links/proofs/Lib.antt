-- Laws of stores one behind the other, and of the lists of links.
pub mod Shapes
pub mod Columns
pub mod Written
pub mod Standing
