-- The two round trips of document 02, [1]. What is proved of them stands in proofs/, below `Laws`; the demands (claims/Demands) say them of the reader's and the writer's outcomes.
pub mod Order
