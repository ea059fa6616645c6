-- Writing lent tables as a sheet: document 02, [1]. What is proved of it stands in proofs/, below `Laws`.
pub mod RowLines
pub mod Outcome
pub mod Made
pub mod Laws
