-- The frames that are printed, and a refusal's line: document 01, 'The day program'. Everything below `Laws` is proved of them.
pub mod Frames
pub mod Back
pub mod Laws
