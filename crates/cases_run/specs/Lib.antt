-- What the program lends.
pub mod Unset
