-- The laws that the proofs of reading and writing cite.
pub mod Kept
