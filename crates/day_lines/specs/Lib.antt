-- The lines of a day's instants, and the lent buffer that holds them. What is proved of them stands in proofs/, below `Laws`.
pub mod Lines
pub mod Written
