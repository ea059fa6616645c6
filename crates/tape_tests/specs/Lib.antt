-- The tests of a line of a tape, in their order.
pub mod Tests
