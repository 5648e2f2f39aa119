-- What the contracts of the tests cite.
pub mod Tested
