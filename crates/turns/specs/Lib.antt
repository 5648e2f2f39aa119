-- What the contracts of a source's turn say of lent work memory.
pub mod Turn
