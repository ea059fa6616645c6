-- What is proved of the definitions, and what the proofs use in place of their text.
pub mod Changes
pub mod Row
pub mod Exact
