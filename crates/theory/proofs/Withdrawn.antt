-- Withdrawn zones: the network of all numbers beside the network of those that remain.
pub mod Fewer
pub mod FewerSkeleton
pub mod Remaining
