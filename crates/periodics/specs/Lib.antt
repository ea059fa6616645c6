-- The fields of a periodic row, read from its table.
pub mod Rows
pub mod Laws
