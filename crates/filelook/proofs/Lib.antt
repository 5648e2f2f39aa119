-- The laws that the proofs of a quick look cite.
pub mod PlainLaws
