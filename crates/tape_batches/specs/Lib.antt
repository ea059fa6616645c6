-- The requests of one instant in a tape.
pub mod Batch
pub mod Laws
