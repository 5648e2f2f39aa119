-- Network files, answers and the tests of a call: from bytes to arcs and back, and nothing said twice.
pub mod Readings
pub mod NumberLaws
pub mod FileLaws
pub mod Longest
pub mod FileCut
pub mod CutShort
pub mod AnswerLaws
pub mod Outcomes
pub mod Troubles
pub mod Numbering
pub mod Pointing
pub mod Listing
pub mod Accepting
pub mod SkeletonFile
