-- What naming all zones asks for, and what it leaves.
pub mod Components
