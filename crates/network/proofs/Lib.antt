-- What the two calls give back.
pub mod Answering
