-- The arcs of the rings of all components, and what putting them asks and leaves.
pub mod Rings
