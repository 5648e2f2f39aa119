-- Laws of the lines of links.
pub mod Links
