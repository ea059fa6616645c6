-- What the requests of one instant add to the events and to the waiting buffer.
pub mod Adds
pub mod Laws
