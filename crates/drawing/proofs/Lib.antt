-- From the names of the zones to the network of the components.
pub mod Orders
pub mod Tables
pub mod Parts
