-- What condensing asks for and leaves.
pub mod ComponentArcs
