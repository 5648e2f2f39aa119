-- What the map of lent work memory is.
pub mod Map
