-- The turns of the triggers of one key.
pub mod Turns
pub mod Laws
