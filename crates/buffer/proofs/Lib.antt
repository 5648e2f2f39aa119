-- Laws of texts put on a page, of decimal digits, and of words with numbers.
pub mod Puts
pub mod Decimal
pub mod Lengths
