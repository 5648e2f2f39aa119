-- What the contracts over the writing of links say.
pub mod Stores
pub mod Linking
