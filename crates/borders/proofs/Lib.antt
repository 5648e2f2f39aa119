-- Laws of the noted arcs: over lists, and in the memory while they are noted.
pub mod Tests
pub mod Marks
