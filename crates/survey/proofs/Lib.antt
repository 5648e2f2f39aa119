-- Laws of the survey of a network.
mod Surveying
