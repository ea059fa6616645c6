-- What is proved of a periodic row's fields.
pub mod Exact
