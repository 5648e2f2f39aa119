-- The three demands, sentence by sentence, of what the calls put out.
pub mod Calls
pub mod Answers
pub mod Refusals
pub mod Accepts
pub mod Pointing
pub mod Questions
pub mod Files
pub mod Skeletons
pub mod Linked
pub mod Plans
pub mod Records
pub mod EmptyList
