-- What connecting sources and sinks asks and leaves.
pub mod Connect
