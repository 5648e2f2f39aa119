-- What the contracts of the first pass say.
pub mod Order
pub mod Deep
pub mod Memory
