-- What an answer of PLAN says of its links.
pub mod Needs
