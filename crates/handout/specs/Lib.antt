-- What handing out the links of a plan asks and leaves.
pub mod Handout
