-- What is proved of frames, and what their readers use in place of the definitions' text.
pub mod Frame
