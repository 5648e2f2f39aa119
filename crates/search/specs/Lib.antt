-- What the search over arranged rows promises.
pub mod Marking
