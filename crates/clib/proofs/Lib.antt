-- What the promises of the C functions settle: everything.
pub mod Outcomes
