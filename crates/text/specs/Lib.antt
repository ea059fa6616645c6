-- The lines of a text, and their characters: document 01, 'The sheet', and FRAME of 'What comes back'. Everything below `Laws` is proved of them.
pub mod Lines
pub mod Framed
pub mod Laws
