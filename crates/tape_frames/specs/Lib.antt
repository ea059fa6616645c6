-- What a frame of a tape says.
pub mod Frame
pub mod Laws
