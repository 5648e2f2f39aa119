-- What noting the places of the components asks for and leaves.
pub mod Spots
