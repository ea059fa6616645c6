-- The form of second/FORMAT.md: digits and numbers, and what a line is held to. What stands in `Laws` is proved of them.
pub mod Digits
pub mod Laws
