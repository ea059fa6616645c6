-- The due periodic events.
pub mod Due
pub mod Laws
