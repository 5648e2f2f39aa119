-- What the contracts over the stations of a chain say.
pub mod Stations
