-- What the readers of lines share, the sheet's and the tape's: the tests of a line in their order, the column of its refusal, and the lines of a text in order.
pub mod Order
pub mod Column
pub mod Says
pub mod Walks
pub mod Laws
