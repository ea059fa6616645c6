-- What is proved of lines and their characters, and what readers of either use in place of the definitions' text.
pub mod Lines
pub mod Framed
