-- Laws of going down: over plain functions, and in the memory.
pub mod Entries
pub mod Push
pub mod Keeping
pub mod Looking
pub mod Down
