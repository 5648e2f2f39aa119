-- What a side of the plan rule is.
pub mod Standing
pub mod Sides
