-- Document 01's bench examples that are marked P, 1 to 8. `Table` is the table of them; `Example` is what an example says, in the definitions of the box; `Written` and `Day` are how it is
-- written down. In proofs/, below `Laws`, `Said` is the one proof over the table, and the rest is why a test that computes makes an example true.
pub mod Written
pub mod Day
pub mod Example
pub mod Table
