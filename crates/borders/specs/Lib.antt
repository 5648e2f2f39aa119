-- What noting the arcs at the names of their ends asks and leaves.
pub mod Borders
