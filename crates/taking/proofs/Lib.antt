-- Laws of taking a head: when it is fresh, what is kept, and the two ways.
pub mod Fresh
pub mod Taken
pub mod Taking
