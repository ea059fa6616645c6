-- A minute of a day.
pub mod Minute
pub mod Laws
