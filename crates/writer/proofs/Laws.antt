-- What is proved of writing.
pub mod Frames
pub mod Puts
pub mod Room
pub mod Rows
pub mod OneLine
pub mod Meets
pub mod Writes
pub mod Exact
