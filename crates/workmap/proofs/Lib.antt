-- Laws of the map.
pub mod Places
