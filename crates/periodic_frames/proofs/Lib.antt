-- What is proved of the bytes of a row.
pub mod Bytes
