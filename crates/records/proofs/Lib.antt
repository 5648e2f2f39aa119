-- Laws of PLAN over records, and what its promise means.
pub mod Answering
pub mod Rooms
pub mod Contents
pub mod Outcomes
