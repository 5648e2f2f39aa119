-- What putting the arcs of a skeleton asks for and leaves.
pub mod Drawing
