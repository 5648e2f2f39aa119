-- The blocks: which arcs they put, what the contracts say, and what that is in terms of the rules.
pub mod Sweeps
pub mod Contract
pub mod Crossings
