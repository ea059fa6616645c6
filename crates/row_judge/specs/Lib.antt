-- The judge of the lent rows: TOO MANY and FIELD.
pub mod Judge
