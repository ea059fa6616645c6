-- What is proved of the two parts of an input.
pub mod Loop
pub mod Parts
pub mod Lines
