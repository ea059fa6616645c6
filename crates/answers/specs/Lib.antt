-- What comes back: document 01's answers, their numbers and their places.
pub mod Answers
