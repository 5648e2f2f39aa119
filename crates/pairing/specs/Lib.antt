-- What the contracts of the pairing say of lent work memory.
pub mod Pairs
