-- What the proofs of the tests share, and what a table that passes them gives the code.

pub mod RecordWords
pub mod TableWords
pub mod Below
pub mod PassedTable
pub mod FirstNode
pub mod LentShape
