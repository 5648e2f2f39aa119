-- What the contracts of taking a network in cite.
pub mod Taken
