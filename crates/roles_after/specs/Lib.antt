-- After the instant: the roles, and how many events have a nonblocked member.
pub mod After
pub mod Laws
