-- What the reader accepts is in good order and has no loop. There are no definitions here: `Laws.Accepted` has the theorems, and the other laws lead to them.
pub mod Laws
