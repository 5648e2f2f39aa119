-- What the contracts of counting say.
pub mod Counts
