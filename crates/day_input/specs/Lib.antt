-- The whole input of a day, tested before the first instant.
pub mod Opening
pub mod Planned
