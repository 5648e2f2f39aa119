-- Laws of the search over arranged rows.
pub mod Keeping
pub mod Closed
pub mod Laying
mod Join
mod Turn
pub mod Course
