-- Laws of U: what it keeps, what is left of a row of heads, and the loop.
pub mod United
pub mod Behind
pub mod HeadsLeft
pub mod Uniting
