-- Nodes and edges, drawn from a trigger table (document 01, 'The loop test').
pub mod Drawing
pub mod Laws
