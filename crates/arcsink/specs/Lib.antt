-- What putting arcs into a sink asks and leaves.
pub mod Sink
