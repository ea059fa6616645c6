-- A run of minutes of a day, with no word of what is printed of it. Everything below `Laws` is proved of it.
pub mod Run
pub mod Laws
