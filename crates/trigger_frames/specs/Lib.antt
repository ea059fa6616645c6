-- The row of a trigger frame, as its table holds it.
pub mod Row
pub mod Laws
