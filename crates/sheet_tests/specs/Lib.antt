-- The tests of a line, in their order.
pub mod Judge
pub mod Laws
