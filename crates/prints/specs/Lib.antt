-- What is printed: document 01, 'The sheet', frames as lines. Everything below `Laws` is proved of them.
pub mod Print
pub mod Laws
