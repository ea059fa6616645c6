-- What is proved of a day.
pub mod Front
pub mod Opened
pub mod Exact
