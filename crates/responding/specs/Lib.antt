-- What the contracts of the two functions cite.
pub mod Buffers
