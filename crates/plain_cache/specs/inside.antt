pub mod OwnedRow
