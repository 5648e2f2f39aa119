-- Arcs that are put into a sink, one behind the other.
pub mod Sinks
