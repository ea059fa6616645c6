-- The kinds of frames: how many bytes each has, and where each may stand.
pub mod Kinds
