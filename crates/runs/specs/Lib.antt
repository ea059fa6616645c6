-- Any run of accepted steps is the paper's.
pub mod Runs
