-- The judge of lent tables: what it hands back, and what these say in document 01's words.
pub mod Judge
pub mod Judged
pub mod Says
