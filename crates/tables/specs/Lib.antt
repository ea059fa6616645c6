-- What is lent, to the byte: the tables' rows, the buffers and the role set as the model sees them.
pub mod Layout
pub mod Buffers
pub mod Asked
pub mod Lent
pub mod Used
