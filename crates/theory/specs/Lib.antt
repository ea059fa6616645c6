-- The model of document 01, in its order. The modules up to `Used` are what a reader must believe; what is proved of them stands in proofs/, below `Laws`. (`Levels` of `Graph` is no
-- sentence of document 01: it is what the solver asks for, and `Laws.Levels` proves that such levels are there exactly when there is no loop.)
pub mod Numbers
pub mod Below
pub mod Events
pub mod Sheet
pub mod Instant
pub mod Graph
pub mod Model
pub mod Box
pub mod LoopTest
pub mod Used
pub mod Solving
