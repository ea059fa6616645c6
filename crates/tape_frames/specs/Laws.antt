-- What is proved of a tape's frames.
pub mod Exact
pub mod Kinds
