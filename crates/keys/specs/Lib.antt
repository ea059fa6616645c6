-- The keys of the triggers, and their chains.
pub mod Keys
pub mod Laws
