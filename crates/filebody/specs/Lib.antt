-- What the contract of a file's body cites.
pub mod Answered
