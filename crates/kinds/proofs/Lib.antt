-- Laws of the kinds: tied to the rules, of withdrawn zones, and of the lists of names.
pub mod Rules
pub mod Turns
pub mod Stamping
pub mod Whole
