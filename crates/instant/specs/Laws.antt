-- What is proved of the instant's own work.
pub mod Exact
