-- Laws of bits: of one number, and of a table in a list.
pub mod Numbers
pub mod Tables
