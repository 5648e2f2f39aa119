-- Laws of the turn of a component: what its steps keep, the loop over its heads, and both steps together.
pub mod Memory
pub mod Kept
pub mod Noting
pub mod Turns
