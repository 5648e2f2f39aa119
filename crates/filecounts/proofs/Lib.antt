-- What is known of a file by its two counts.
pub mod Thens
pub mod FileCounts
