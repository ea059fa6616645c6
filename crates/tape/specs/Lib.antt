-- A tape: its lines in order, and the requests that they make.
pub mod Tape
pub mod Took
pub mod Fine
pub mod Laws
