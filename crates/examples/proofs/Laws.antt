-- The test of an example, why a test that passes makes it true (one file a part of the test, and `Sound`, where they meet), and `Said`, the one proof over the table.
pub mod Passes
pub mod Listed
pub mod Solved
pub mod Looped
pub mod Stepped
pub mod Read
pub mod Opens
pub mod Printed
pub mod Sound
pub mod Said
