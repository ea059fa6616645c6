-- What is proved of a run of minutes.
pub mod Model
pub mod Cursor
pub mod Minute
pub mod Good
pub mod Opened
