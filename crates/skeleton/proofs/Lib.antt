-- Laws of the call `skeleton`.
mod Answering
mod Sketching
