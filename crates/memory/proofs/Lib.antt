-- Numbers compared, and laws of parts of lent work memory, of stores, copies and fills.
pub mod Numbers
pub mod Regions
pub mod Stores
pub mod Places
pub mod Copies
pub mod Cleared
pub mod Puts
