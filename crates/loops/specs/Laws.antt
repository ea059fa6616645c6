-- What is proved of the definitions, and what the proofs use in place of their text.
pub mod Search
pub mod Levels
pub mod Tested
pub mod Says
