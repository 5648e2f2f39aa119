-- What the contracts of the lines of links say.
pub mod Lines
