-- The tests of a step that come before its tables.
pub mod Order
