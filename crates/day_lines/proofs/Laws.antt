-- What is proved of the lines of a day.
pub mod Weight
pub mod Lines
pub mod Written
