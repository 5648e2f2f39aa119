-- What is read off a search that is to come to every zone that remains.
pub mod Marks
