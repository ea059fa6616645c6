-- The lines of one kind and the rows of their frames (`LinesOf`); lines that pass one after the other (`PassesFrom`); what was written reads whole, with its rows (`Reads`); what was read is written in
-- table order (`Writes`).
pub mod LinesOf
pub mod PassesFrom
pub mod Lengths
pub mod Reads
pub mod Writes
pub mod Complete
