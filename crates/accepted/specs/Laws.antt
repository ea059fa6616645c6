-- The way there: a row in its table, what a line that passed has, and what was read so far; then `Accepted`, the theorems.
pub mod Rows
pub mod Tables
pub mod Fields
pub mod After
pub mod SoFar
pub mod Kept
pub mod Lines
pub mod Accepted
