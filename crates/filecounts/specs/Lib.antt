-- What the contracts of the two counts cite.
pub mod Counts
