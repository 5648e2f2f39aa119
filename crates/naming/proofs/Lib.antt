-- Laws of the naming and of the listing, over plain functions.
pub mod Noting
pub mod Picking
