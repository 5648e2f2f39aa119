-- What the contract of the second pass says.
pub mod Pass
pub mod Roots
