-- A table of bits in a list of 16-bit words.
pub mod Bits
