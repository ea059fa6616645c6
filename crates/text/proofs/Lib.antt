-- What is proved of lines that the code finds by `memchr`.
pub mod Found
