-- What is proved of the pairs of a line's characters.
pub mod Pairs
