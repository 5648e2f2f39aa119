-- What the two questions ask and answer.
pub mod Questions
