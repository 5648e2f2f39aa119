-- The laws of the bytes of a network file.
pub mod Bytes
pub mod WrittenFile
