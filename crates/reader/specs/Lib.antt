-- Reading a sheet: document 01, 'The sheet', and the reader's part of 'What comes back'. What is proved of it stands in proofs/, below `Laws`.
pub mod Answer
pub mod Line
pub mod Lines
pub mod Took
pub mod Out
pub mod Reading
pub mod Laws
