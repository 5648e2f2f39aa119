-- The laws that the proofs of a number's bytes cite.
pub mod GroupCases
