-- The waiting buffer and its rows.
pub mod Waiting
pub mod Laws
