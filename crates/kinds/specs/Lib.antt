-- What the contracts of the kinds say.
pub mod Marks
pub mod Lists
