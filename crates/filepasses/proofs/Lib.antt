-- The laws that the proofs of the passes cite.
pub mod Overs
pub mod ArcTurns
pub mod ArcsDue
pub mod Partway
