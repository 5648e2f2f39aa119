-- Laws of work memory with a network's rows arranged in it, and of what a search along them tells.
pub mod Memory
pub mod Truth
