-- Reading in document 01's words is what the reader does. A text has one list of lines (`Cut`). The tests of a line in their order are its judge (`Order`, `Tests`); what was read of lines that
-- passed is what their frames say (`Frames`, `Said`, `Taken`). So line by line the reader stops where the words say, or reads whole (`Lines`); and the words leave no choice (`One`). The column of a refused line is as document 02 says (`Columns`).
pub mod Cut
pub mod Order
pub mod Frames
pub mod Said
pub mod Tests
pub mod Taken
pub mod Lines
pub mod One
pub mod Columns
