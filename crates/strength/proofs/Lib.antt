-- Laws of work memory with a network's rows arranged both ways, and of what searches from one zone tell.
pub mod Memory
pub mod Truth
