-- A line as the bytes of a frame: document 01, 'The sheet', and CHECK of 'What comes back'. Everything below `Laws` is proved of them.
pub mod Frame
pub mod Laws
