-- What is proved of a minute of a day.
pub mod Outcome
pub mod Exact
