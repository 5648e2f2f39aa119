-- What the call `skeleton` promises, and what its inner functions ask and leave.
pub mod Promises
