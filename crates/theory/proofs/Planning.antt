-- The plan: it makes the network strong, nothing smaller does, and reach alone decides it.
pub mod Augment
pub mod Pairing
pub mod PlanStrong
pub mod Fewest
pub mod Few
pub mod OrderingLinks
pub mod PlanCount
pub mod PlanSame
