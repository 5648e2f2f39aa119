-- What the theory stands on: Bools, lists, counting, numbers that ascend, arcs handed in, runs of stores.
pub mod Bools
pub mod Lists
pub mod Keeping
pub mod Indices
pub mod Counting
pub mod Ascending
pub mod Few
pub mod ArcLists
pub mod Storing
pub mod Shuffled
