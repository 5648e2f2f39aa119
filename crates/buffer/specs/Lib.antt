-- What the contracts of bytes put into a lent buffer say.
pub mod Put
pub mod Words
