-- Laws of connecting the sources and the sinks of a side.
mod Connecting
