-- What the contracts of the numbers cite.
pub mod Readings
