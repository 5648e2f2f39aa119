-- Laws of pairs, and of the pieces that the stations of a chain are made of.
pub mod Couples
pub mod Pieces
