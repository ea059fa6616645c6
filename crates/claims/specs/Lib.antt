-- The top theorems, stated once more and in one place. `Demands` is the first thing to read; `Functions` has the exactness of every public function.
-- Everything below `Laws` leads to what `Demands` adds to the theorems that it cites.
pub mod Words
pub mod Laws
pub mod Demands
pub mod Functions
