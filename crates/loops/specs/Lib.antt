-- The loop test over a trigger table: what it answers.
pub mod Tested
pub mod Laws
