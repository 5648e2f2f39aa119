-- Steps of a walk, by hand, through a function that holds a reference to structs.
pub mod Lending
pub mod LocalArray
pub mod CountedLoop
pub mod Calling
pub mod Locals
pub mod Keeping
pub mod Stepping
pub mod Signing
pub mod Turning
