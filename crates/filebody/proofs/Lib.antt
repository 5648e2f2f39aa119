-- The laws of a file past its counts, and of what is answered to it.
pub mod Bodies
