-- The reach: rows of edges closed, so that each event has the row of events that it reaches.
pub mod Reach
pub mod Laws
