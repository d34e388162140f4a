-- no byte is a mark
pub mod Bytes
