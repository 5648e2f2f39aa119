-- Laws of the listing in the memory.
pub mod Laws
