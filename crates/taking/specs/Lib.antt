-- What taking a head of a component leaves.
pub mod Taking
