-- The row of a periodic frame, as its table holds it.
pub mod Row
pub mod Laws
