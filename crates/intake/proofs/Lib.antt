-- Laws of the tests of a network, and of the arcs' tests one after the other.
pub mod Leading
pub mod Along
