-- What a frame that passed does to what was read so far.
pub mod Acts
pub mod Laws
