-- Laws of the pairing in lent work memory.
mod PairLaws
pub mod CourseLaws
