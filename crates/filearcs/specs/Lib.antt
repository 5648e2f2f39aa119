-- What the contract of an arc cites.
pub mod Readings
