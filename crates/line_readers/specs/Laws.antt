-- What is proved of them.
pub mod Walks
pub mod Order
pub mod Column
