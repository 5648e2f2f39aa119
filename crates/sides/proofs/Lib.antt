-- Laws of the sides of the plan rule.
pub mod Turning
mod Runs
