-- Laws of the second pass: a turn of it over plain functions, and in the memory.
pub mod Turn
pub mod Taking
pub mod Collecting
