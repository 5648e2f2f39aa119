-- Laws of marks, of parts of the work memory, of arc lists, of arranging, and of arranged rows.
pub mod Parts
pub mod Zeros
pub mod ArcRows
pub mod ArrangeLaws
pub mod TwoLists
pub mod ArrangedLaws
pub mod ReadyLaws
