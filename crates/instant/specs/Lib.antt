-- The instant's own work: the givens, the solution, what waits, the roles after.
pub mod Acted
pub mod Laws
