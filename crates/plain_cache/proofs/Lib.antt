pub mod RowLists
pub mod Rotation
pub mod Scanned
pub mod Kept
