-- Laws of the heads of each tail, and of what counting does on plain lists.
pub mod Heads
pub mod Counts
