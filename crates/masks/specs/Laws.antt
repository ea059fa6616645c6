-- What is proved of the definitions, and what callers use in place of their text.
pub mod Bits
pub mod Joined
pub mod Held
pub mod Live
pub mod Joins
pub mod Fill
