-- What is proved of what is printed: how long it is, how it comes into a buffer, and that it reads back.
pub mod Lengths
pub mod Pasted
pub mod Reads
pub mod Back
pub mod Numbers
