-- What is proved of a tape.
pub mod Line
pub mod Column
pub mod Fine
pub mod Exact
