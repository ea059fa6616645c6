-- The solver of one instant.
pub mod Solved
pub mod Laws
