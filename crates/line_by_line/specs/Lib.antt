-- Reading in document 01's words: a sheet's lines as a list, the tests of a line, said of the lines before it, and what comes back. What is proved of it stands in proofs/, below `Laws`.
pub mod Lines
pub mod Tests
pub mod ComesBack
