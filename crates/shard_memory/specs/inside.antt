-- Words that only the private parts cite.
pub mod Pieces
pub mod Parts
pub mod Lending
