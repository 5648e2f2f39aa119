-- Laws of the blocks: what a turn does to the bits, that the table is right, the loops, and which arcs are put.
pub mod RowBits
pub mod KeptHeads
pub mod TableRight
pub mod StayingArcs
pub mod Turns
pub mod BlockLoops
pub mod Crossing
