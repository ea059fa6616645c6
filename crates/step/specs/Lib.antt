-- One step: its outcome and its parts. (That the outcome is one stands in proofs/, `Laws.Exact`.)
pub mod Outcome
pub mod Parts
