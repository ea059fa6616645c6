-- A whole day, from an input's bytes to what is printed.
pub mod Day
pub mod Ready
pub mod Laws
