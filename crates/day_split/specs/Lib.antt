-- The input of a day in its two parts, a sheet and a tape.
pub mod Split
pub mod Parted
