pub mod Gone
pub mod Kept
pub mod Putting
pub mod RowsWritten
pub mod Telling
