-- The laws of chains of tests.
pub mod Chains
