-- What passes over a network with withdrawn zones ask, and what marking those zones leaves.
pub mod Withdrawn
