-- What a set of zone numbers holds.
pub mod Held
