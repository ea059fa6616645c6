-- What is proved of a step, and what the proofs use in place of the definitions' text.
pub mod Buffers
pub mod Passes
pub mod Acted
pub mod Whole
pub mod Exact
pub mod Used
