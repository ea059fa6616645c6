-- What triggers with a delay let wait.
pub mod Delays
pub mod Laws
