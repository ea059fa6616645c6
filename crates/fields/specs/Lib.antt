-- The fields of a frame: FIELD.
pub mod Fields
pub mod Laws
