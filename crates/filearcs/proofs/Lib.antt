-- The laws that the proofs of an arc cite.
pub mod ArcCases
