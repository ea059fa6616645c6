-- What the demands add to the theorems that they cite: each file is a demand's other half, or an example that shuts a wrong box out.
pub mod Numbers
pub mod Reader
pub mod ComesBack
pub mod Columns
pub mod Worked
pub mod Writer
pub mod RoundTrips
pub mod Step
pub mod There
pub mod Day
pub mod Looped
pub mod Shut
