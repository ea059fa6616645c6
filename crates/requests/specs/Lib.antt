-- The requests of one instant.
pub mod Requests
pub mod Asked
pub mod Flat
pub mod Laws
