-- What is said of parts of lent work memory, and of what is stored there.
pub mod Regions
pub mod Storing
pub mod Putting
