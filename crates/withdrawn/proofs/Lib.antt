-- Laws of a list of withdrawn numbers: the lowest number that it leaves out, stamps at its numbers, and what the
-- tests leave.
pub mod Fronts
pub mod Stamps
pub mod Readying
