-- The rows counted: TOO MANY and COUNT.
pub mod Counts
pub mod Laws
