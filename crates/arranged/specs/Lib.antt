-- What the contracts over arranged rows say of lent work memory: rows, marks, arranging.
pub mod Rows
pub mod Marks
pub mod Arranged
pub mod Ready
