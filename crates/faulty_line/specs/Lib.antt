-- The line for the screen: document 02, [2]. Everything below `Laws` is proved of it.
pub mod Part
pub mod Laws
