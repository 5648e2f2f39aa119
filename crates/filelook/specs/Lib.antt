-- What the contracts of a quick look cite.
pub mod Looks
