-- The array of rows, one per event: which events each reaches.
pub mod Rows
pub mod Laws
