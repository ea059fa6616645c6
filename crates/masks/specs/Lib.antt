-- Masks of priorities, buffers of them and the role set: what is done with them, and their laws.
pub mod Masks
pub mod Joins
pub mod Laws
