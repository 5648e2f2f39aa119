-- What the survey of a network leaves.
pub mod Survey
