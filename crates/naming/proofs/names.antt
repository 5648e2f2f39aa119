-- Laws of the naming in the memory.
pub mod Laws
