-- Reach and its test, components and their names, kinds, the network turned round.
pub mod Reach
pub mod Components
pub mod Turned
pub mod KindLaws
pub mod Down
pub mod KindCounts
