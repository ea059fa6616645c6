-- A sheet read and written again.
pub mod Resend
pub mod Laws
