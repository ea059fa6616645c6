-- What is proved of the printed frames: their bytes, how long they are, how a refusal's line comes into a buffer, and that it reads back.
pub mod Made
pub mod Lengths
pub mod Line
pub mod Bytes
pub mod Back
