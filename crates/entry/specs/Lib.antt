-- The step over a lent list of request records.
pub mod Listed
