-- The laws that the proofs of the two functions cite.
pub mod Found
pub mod Accepted
pub mod Lines
pub mod Handing
pub mod Outcomes
