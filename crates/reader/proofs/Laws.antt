-- What is proved of reading.
pub mod Took
pub mod Column
pub mod Out
pub mod Lengths
pub mod Exact
