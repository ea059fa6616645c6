-- A row of events: which events it reaches.
pub mod Row
pub mod Laws
